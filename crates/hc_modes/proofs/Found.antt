-- What writes of the tree leave as it was.
use Rattle.std.proofs.Common.{◌≡◌, ℕ, Bool, true, false, cond, eqb, eqb-true, ◌∷◌, refl, ap, ◌∙◌}
use Rattle.hc_layout.specs.declared.shape.Shape.{Shape}
use Rattle.hc_value.specs.declared.field.Detail.{Detail}
use Rattle.hc_heap.specs.Writes.{Write, Trail, Bits, ObjectCell, ObjectMap, Root, Store, Slot, Validity}
use Rattle.hc_heap.specs.Readings.{map_in, root_in, store_in, slot_in}
use Rattle.hc_heap.specs.States.{View}
use Rattle.hc_modes.specs.Changes.{TouchesBut}
use Rattle.hc_tree.specs.Details.{Reshapes}

pub reshapes-touches : (old : View) (o : ℕ) (used : Shape) (Dies : ℕ → Type 0) (Gets : ℕ → Detail → Type 0) (t : Trail) (w : Write) → Reshapes used Dies Gets t w → TouchesBut Dies old o t w
reshapes-touches old o used Dies Gets t (ObjectMap i h) e = absurd e
reshapes-touches old o used Dies Gets t (Store i v) e = absurd e
reshapes-touches old o used Dies Gets t (Slot s v) e = absurd e
reshapes-touches old o used Dies Gets t (ObjectCell i c) e = absurd e
reshapes-touches old o used Dies Gets t (Validity c v) e = absurd e
reshapes-touches old o used Dies Gets t (Root i r) e = record { proto = λ ne. e.0; map = e.1 }
reshapes-touches old o used Dies Gets t (Bits m b) e = e
reshapes-touches old o used Dies Gets t _ e = tt

module _ (used : Shape) (Dies : ℕ → Type 0) (Gets : ℕ → Detail → Type 0) where
  pub map-grown : (o : ℕ) (t : Trail) (w : Write) → Reshapes used Dies Gets t w → map_in (w ∷ t) o ≡ map_in t o
  map-grown o t (ObjectMap i h) e = absurd e
  map-grown o t _ e = refl

  pub store-grown : (o : ℕ) (t : Trail) (w : Write) → Reshapes used Dies Gets t w → store_in (w ∷ t) o ≡ store_in t o
  store-grown o t (Store i v) e = absurd e
  store-grown o t _ e = refl

  pub slot-grown : (s : ℕ) (t : Trail) (w : Write) → Reshapes used Dies Gets t w → slot_in (w ∷ t) s ≡ slot_in t s
  slot-grown s t (Slot i v) e = absurd e
  slot-grown s t _ e = refl

  -- whether an object is a prototype stays
  pub proto-grown : (q : ℕ) (t : Trail) (w : Write) → Reshapes used Dies Gets t w → (root_in (w ∷ t) q).is_proto ≡ (root_in t q).is_proto
  proto-grown q t (Root i r) e = by (eqb i q) refl
    where
      by : (c : Bool) → eqb i q ≡ c → (cond c r (root_in t q)).is_proto ≡ (root_in t q).is_proto
      by true is = e.0 ∙ ap (λ (x : ℕ). (root_in t x).is_proto) (eqb-true i q is)
      by false is = refl
  proto-grown q t _ e = refl
