-- Maps above a map: they are live where it is, and a map that dies leaves those above it as they are.
use Rattle.std.proofs.Common.{◌≡◌, ◌≢◌, ℕ, zero, suc, ◌≤◌, ◌∷◌, Bool, true, false, Option, Some, None, refl, sym, ap, ◌∙◌, subst, arith, true≢false}
use Rattle.std.specs.Prelude.{IsTrue}
use Rattle.hc_layout.specs.declared.words.GateWord.{GateWord}
use Rattle.hc_value.specs.declared.key.Key.{Key}
use Rattle.hc_heap.specs.Writes.{Write, Trail, Bits}
use Rattle.hc_heap.specs.Readings.{gate_in, parent_in, prototype_in, bits_in}
use Rattle.hc_heap.specs.Frames.{same-after}
use Rattle.hc_heap.specs.States.{View}
use Rattle.hc_tree.specs.Tree.{IsChildFor, IsTree}
use Rattle.hc_tree.specs.Walking.{above, ancestor, parent_of}
use Rattle.hc_tree.specs.Dying.{Deprecates, IsDeprecated, IsHigh, IsUnder}
use Rattle.hc_tree.proofs.Owners.{led-to}
use Rattle.hc_tree.proofs.Opening.{cond-other}

-- a map above an open one is open, and no younger
pub record IsAbove (t : Trail) (m a : ℕ) : Type 0 where
  pub gate : GateWord
  pub is_open : gate_in t a ≡ Some gate
  pub older : a ≤ m
  pub prototype : prototype_in t a ≡ prototype_in t m
  pub falls : IsTrue (bits_in t a).deprecated → IsTrue (bits_in t m).deprecated

parent-is : (t : Trail) (b a : ℕ) → parent_of (parent_in t b) ≡ Some a → parent_in t b ≡ Some (Some a)
parent-is t b a is = by (parent_in t b) is
  where
    by : (o : Option (Option ℕ)) → parent_of o ≡ Some a → o ≡ Some (Some a)
    by (Some p) e = ap (λ (x : Option ℕ). Some x) e
    by None e = let n : ⊥ = cc in absurd n

pub rises-to : (t : Trail) (m a depth : ℕ) (g : GateWord) → IsTree t → gate_in t m ≡ Some g → ancestor t depth m ≡ Some a → IsAbove t m a
rises-to t m a zero g tree is leads =
    let same : m ≡ a = cc in
    subst (λ (x : ℕ). IsAbove t m x) same (record { gate = g; is_open = is; older = omega arith; prototype = refl; falls = λ h. h })
rises-to t m a (suc d) g tree is leads = by (ancestor t d m) refl leads (λ (b : ℕ) (e : ancestor t d m ≡ Some b). rises-to t m b d g tree is e)
  where
    by : (o : Option ℕ) → ancestor t d m ≡ o → above t o ≡ Some a → ((b : ℕ) → ancestor t d m ≡ Some b → IsAbove t m b) → IsAbove t m a
    by None e up lower = let n : ⊥ = cc in absurd n
    by (Some b) e up lower =
        let it = lower b e in
        let led = (tree.maps b it.gate it.is_open).child a (parent-is t b a up) in
        let its = led-to t a b led.gate tree led.is_open led in
        let younger = its.child.younger in
        let older = it.older in
        record { gate = led.gate; is_open = led.is_open; older = omega (arith, younger, older); prototype = sym its.child.prototype ∙ it.prototype; falls = λ h. it.falls (its.child.deprecated h) }

not-dead : (b : Bool) → (IsTrue b → ⊥) → b ≡ false
not-dead true h = absurd (h refl)
not-dead false h = refl

pub stand-high : (t : Trail) (m a depth : ℕ) (g : GateWord) → IsTree t → gate_in t m ≡ Some g → (bits_in t m).deprecated ≡ false → ancestor t depth m ≡ Some a → IsHigh t m a
stand-high t m a depth g tree is live leads =
    let it = rises-to t m a depth g tree is leads in
    record { gate = it.gate; is_open = it.is_open; live = not-dead (bits_in t a).deprecated (λ h. true≢false (sym (it.falls h) ∙ live)); older = it.older; prototype = it.prototype }

pub spared : (old new : View) (m c : ℕ) (g : GateWord) (key : Key) → IsTree old.trail → gate_in old.trail m ≡ Some g → IsChildFor old.trail m g c key → IsDeprecated old new c → bits_in new.trail m ≡ bits_in old.trail m
spared old new m c g key tree gate child it = same-after (λ (t : Trail). bits_in t m) step it.writes
  where
    other : (x : ℕ) → IsUnder old.trail c x → x ≢ m
    other x under same =
        let high = rises-to old.trail m c under.depth g tree gate (ap (ancestor old.trail under.depth) (sym same) ∙ under.leads) in
        let older = high.older in
        let younger = child.younger in
        absurd (omega (arith, older, younger))

    step : (t : Trail) (w : Write) → Deprecates old.trail c t w → bits_in (w ∷ t) m ≡ bits_in t m
    step t (Bits x b) e = cond-other x m b (bits_in t m) (other x e.0)
    step t _ e = absurd e
