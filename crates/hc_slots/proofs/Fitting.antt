-- An object gets room for one property more.
use Rattle.std.proofs.Common.{◌≡◌, ℕ, ◌+◌, ◌<◌, ◌≤◌, Bool, true, false, cond, ◌∷◌, Option, Some, refl, sym, ap, ◌∙◌, subst, arith, eq-eqb, rules}
use Rattle.std.specs.Prelude.{IsSomeAnd, nat_lt}
use Rattle.std.proofs.Math.Nat.{le_refl}
use Rattle.std.proofs.lemmas.Bool.Decides.{nat_tests}
use Rattle.hc_layout.specs.Capacity.{cap_of}
use Rattle.hc_heap.specs.Writes.{Slot}
use Rattle.hc_heap.specs.Readings.{store_in, slot_in}
use Rattle.hc_heap.specs.Lawful.{word_from}
use Rattle.hc_heap.specs.Frames.{adds-on, adds-one, adds-none}
use Rattle.hc_heap.specs.States.{View, with_write}
use Rattle.hc_slots.specs.Meaning.{slot_word}
use Rattle.hc_slots.specs.Slots.{Owns, AreHandedOut, IsFitted, slots_need, owns-index}
use Rattle.hc_slots.specs.Cases.{some-and, cond-other}

lt-of : (n c : ℕ) → nat_lt n c ≡ true → n < c
lt-of n c e = search (rules, nat_tests)

ge-of : (n c : ℕ) → nat_lt n c ≡ false → c ≤ n
ge-of n c e = search (rules, nat_tests)

-- an object that has a slot left needs none, and one that is full needs a store
pub need-full : (n c : ℕ) → c ≤ n → slots_need n c ≡ cap_of (n + 1)
need-full n c le = by (nat_lt n c) refl
  where
    by : (b : Bool) → nat_lt n c ≡ b → cond b 0 (cap_of (n + 1)) ≡ cap_of (n + 1)
    by true e = absurd (omega (arith, lt-of n c e, le))
    by false e = refl

need-none : (n c : ℕ) → n < c → slots_need n c ≡ 0
need-none n c lt = by (nat_lt n c) refl
  where
    by : (b : Bool) → nat_lt n c ≡ b → cond b 0 (cap_of (n + 1)) ≡ 0
    by true e = refl
    by false e = absurd (omega (arith, ge-of n c e, lt))

-- nothing is to do
pub fits-already : (v : View) (o n : ℕ) → AreHandedOut v.used.slots (store_in v.trail o) → n < (store_in v.trail o).capacity → IsFitted v v o n
fits-already v o n out room = record {
  writes = adds-none v.trail;
  shape = refl;
  used = refl;
  slots = le_refl v.used.slots;
  more = omega (arith, need-none n (store_in v.trail o).capacity room);
  store = out;
  owns = λ s owns lt. owns;
  room = room;
  words = λ k lt. refl;
}

-- the slot after the first n is written
module _ (v w : View) (o n first x : ℕ) (fitted : IsFitted v w o n) (is : (store_in w.trail o).first ≡ Some first) where
  owned : Owns w.trail o (first + n)
  owned = owns-index (store_in w.trail o) first n is fitted.room

  next-fits : IsFitted v (with_write w (Slot (first + n) x)) o n
  next-fits = record {
    writes = adds-on fitted.writes (adds-one w.trail (Slot (first + n) x) (λ lt. fitted.owns (first + n) owned lt));
    shape = fitted.shape;
    used = fitted.used;
    slots = fitted.slots;
    more = fitted.more;
    store = fitted.store;
    owns = fitted.owns;
    room = fitted.room;
    words = λ k lt.
        ap (λ (f : Option ℕ). word_from (Slot (first + n) x ∷ w.trail) f k) is
        ∙ cond-other (first + n) (first + k) x (slot_in w.trail (first + k)) (λ e. omega (arith, e, lt))
        ∙ sym (ap (λ (f : Option ℕ). word_from w.trail f k) is)
        ∙ fitted.words k lt;
  }

  next-holds : slot_word (Slot (first + n) x ∷ w.trail) o n ≡ x
  next-holds =
      ap (λ (f : Option ℕ). word_from (Slot (first + n) x ∷ w.trail) f n) is
      ∙ ap (λ (b : Bool). cond b x (slot_in w.trail (first + n))) (eq-eqb (first + n) (first + n) refl)

-- wherever the slots are
module _ (v w new : View) (o n x : ℕ) (fitted : IsFitted v w o n) (written : IsSomeAnd (store_in w.trail o).first (λ first. new ≡ with_write w (Slot (first + n) x))) where
  at : (first : ℕ) × (((store_in w.trail o).first ≡ Some first) × (new ≡ with_write w (Slot (first + n) x)))
  at = some-and (store_in w.trail o).first (λ first. new ≡ with_write w (Slot (first + n) x)) written

  pub filled-fits : IsFitted v new o n
  filled-fits = subst (λ (u : View). IsFitted v u o n) (sym at.1.1) (next-fits v w o n at.0 x fitted at.1.0)

  pub filled-holds : slot_word new.trail o n ≡ x
  filled-holds = ap (λ (u : View). slot_word u.trail o n) at.1.1 ∙ next-holds v w o n at.0 x fitted at.1.0
