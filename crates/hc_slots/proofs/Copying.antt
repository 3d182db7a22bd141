-- Slots that are copied, one after another.
use Rattle.std.proofs.Common.{◌≡◌, ℕ, ◌+◌, ◌<◌, Bool, cond, eq-eqb, ◌∷◌, refl, sym, ap, ◌∙◌, subst, arith}
use Rattle.hc_heap.specs.Writes.{Write, Trail, Slot}
use Rattle.hc_heap.specs.Readings.{slot_in}
use Rattle.hc_heap.specs.Frames.{adds-none, adds-one, adds-on, same-after}
use Rattle.hc_heap.specs.States.{View, with_write}
use Rattle.hc_slots.specs.Slots.{FillsSlots, AreCopied}
use Rattle.hc_slots.specs.Cases.{cond-other, same-or}

pub copied-none : (t : Trail) (from upto : ℕ) → AreCopied t t from upto 0
copied-none t from upto = record { words = λ k lt. absurd (omega arith); writes = adds-none t }

before-by : (first s : ℕ) → s < first → (t : Trail) (w : Write) → FillsSlots first t w → slot_in (w ∷ t) s ≡ slot_in t s
before-by first s lt t (Slot i v) e = cond-other i s v (slot_in t s) (λ is. omega (arith, is, e, lt))
before-by first s lt t _ e = refl

-- a slot before the copies stays
pub before-same : (old new : Trail) (from upto n s : ℕ) → AreCopied old new from upto n → s < upto → slot_in new s ≡ slot_in old s
before-same old new from upto n s copied lt = same-after (λ (t : Trail). slot_in t s) (before-by upto s lt) copied.writes

-- the word that is written, and the trail with one copy more
abbrev pub with_copy : Trail → ℕ → ℕ → ℕ → Trail
with_copy t from upto k = Slot (upto + k) (slot_in t (from + k)) ∷ t

last-copied : (old new : Trail) (from upto k : ℕ) → AreCopied old new from upto k → from + k < upto → slot_in (with_copy new from upto k) (upto + k) ≡ slot_in old (from + k)
last-copied old new from upto k copied lt =
    ap (λ (b : Bool). cond b (slot_in new (from + k)) (slot_in new (upto + k))) (eq-eqb (upto + k) (upto + k) refl)
    ∙ before-same old new from upto k (from + k) copied lt

pub copied-more : (old new : Trail) (from upto k : ℕ) → AreCopied old new from upto k → from + k < upto → AreCopied old (with_copy new from upto k) from upto (k + 1)
copied-more old new from upto k copied lt = record {
  words = λ j within. same-or j k (slot_in (with_copy new from upto k) (upto + j) ≡ slot_in old (from + j))
      (λ same. subst (λ (i : ℕ). slot_in (with_copy new from upto k) (upto + i) ≡ slot_in old (from + i)) (sym same) (last-copied old new from upto k copied lt))
      (λ other. cond-other (upto + k) (upto + j) (slot_in new (from + k)) (slot_in new (upto + j)) (λ e. omega (arith, e, other)) ∙ copied.words j (omega (arith, within, other)));
  writes = adds-on copied.writes (adds-one new (Slot (upto + k) (slot_in new (from + k))) (omega arith));
}

-- a view with one write more has the counts that it had
pub view-more : (v now new : View) (w : Write) → now ≡ record v { trail = now.trail } → new ≡ with_write now w → new ≡ record v { trail = new.trail }
view-more v now new w before last =
    last
    ∙ ap (λ (x : View). with_write x w) before
    ∙ sym (ap (λ (t : Trail). let x : View = record v { trail = t } in x) (ap (λ (x : View). x.trail) last))
