-- An object moves to new slots.
use Rattle.std.proofs.Common.{◌≡◌, ℕ, ◌+◌, ◌<◌, ◌≤◌, Bool, cond, eq-eqb, ◌∷◌, Option, Some, None, IfSome, refl, sym, ap, ◌∙◌, subst, arith}
use Rattle.std.specs.Prelude.{IsTrue}
use Rattle.hc_layout.specs.declared.capacity.TheConstants.{MAX_FAST}
use Rattle.hc_layout.specs.declared.shape.Shape.{Shape}
use Rattle.hc_layout.specs.declared.shape.Region.TheVariants.{Slots}
use Rattle.hc_layout.specs.declared.words.StoreWord.{StoreWord}
use Rattle.hc_heap.specs.Writes.{Write, Trail, Slot, Store}
use Rattle.hc_heap.specs.Readings.{bits_in, map_in, store_in, slot_in}
use Rattle.hc_heap.specs.Lawful.{LawfulStore, word_from}
use Rattle.hc_heap.specs.Kept.{Adds}
use Rattle.hc_heap.specs.Frames.{adds-one, adds-on, adds-wider, same-after}
use Rattle.hc_heap.specs.States.{View, HasRoom, with_write}
use Rattle.hc_slots.specs.Meaning.{slot_word}
use Rattle.hc_slots.specs.Slots.{FillsSlots, GrowsStore, HasMoved}

abbrev pub new_store : ℕ → ℕ → StoreWord
new_store capacity first = record { capacity = capacity; first = Some first }

map-by : (first o : ℕ) (t : Trail) (w : Write) → FillsSlots first t w → map_in (w ∷ t) o ≡ map_in t o
map-by first o t (Slot s v) e = refl
map-by first o t _ e = absurd e

store-by : (first o : ℕ) (t : Trail) (w : Write) → FillsSlots first t w → store_in (w ∷ t) o ≡ store_in t o
store-by first o t (Slot s v) e = refl
store-by first o t _ e = absurd e

bits-by : (first m : ℕ) (t : Trail) (w : Write) → FillsSlots first t w → bits_in (w ∷ t) m ≡ bits_in t m
bits-by first m t (Slot s v) e = refl
bits-by first m t _ e = absurd e

grows-by : (first o : ℕ) (t : Trail) (w : Write) → FillsSlots first t w → GrowsStore o first t w
grows-by first o t (Slot s v) e = e
grows-by first o t _ e = absurd e

module _ (old now : View) (o n capacity : ℕ) (shape : now.shape ≡ old.shape) (adds : Adds (FillsSlots old.used.slots) old.trail now.trail) where
  free-still : (m : Option ℕ) → IfSome m (λ x. IsTrue (bits_in old.trail x).unstable) → IfSome m (λ x. IsTrue (bits_in now.trail x).unstable)
  free-still (Some m) h = ap (λ b. b.unstable) (same-after (λ (t : Trail). bits_in t m) (bits-by old.used.slots m) adds) ∙ h
  free-still None h = h

  pub lawful-moved : n < capacity → capacity ≤ MAX_FAST → n ≡ (store_in old.trail o).capacity → IfSome (map_in old.trail o) (λ m. IsTrue (bits_in old.trail m).unstable) → HasRoom old Slots capacity → LawfulStore now.shape now.trail o (new_store capacity old.used.slots)
  lawful-moved more few full free room = record {
    form = omega arith;
    free = subst (λ (m : Option ℕ). IfSome m (λ x. IsTrue (bits_in now.trail x).unstable)) (sym (same-after (λ (t : Trail). map_in t o) (map-by old.used.slots o) adds)) (free-still (map_in old.trail o) free);
    grows = subst (λ (w : StoreWord). w.capacity ≤ capacity) (sym (same-after (λ (t : Trail). store_in t o) (store-by old.used.slots o) adds)) (omega (arith, full, more));
    first = λ some. refl;
    there = subst (λ (s : Shape). (old.used.slots < s.slots) × (old.used.slots + capacity ≤ s.slots)) (sym shape) (omega (arith, room, more), room);
  }

  pub has-moved : (new : View) → n < capacity → new ≡ with_write now (Store o (new_store capacity old.used.slots)) → now.used ≡ record old.used { slots = old.used.slots + capacity }
      → ((k : ℕ) → k < n → slot_in now.trail (old.used.slots + k) ≡ slot_word old.trail o k) → HasMoved old new o n capacity
  has-moved new more is used words = subst (λ (v : View). HasMoved old v o n capacity) (sym is) (record {
    more = more;
    store = here;
    words = λ k lt. ap (λ (w : StoreWord). word_from (Store o (new_store capacity old.used.slots) ∷ now.trail) w.first k) here ∙ words k lt;
    writes = adds-on (adds-wider (grows-by old.used.slots o) adds) (adds-one now.trail (Store o (new_store capacity old.used.slots)) refl);
    used = used;
    shape = shape;
  })
    where
      here : store_in (Store o (new_store capacity old.used.slots) ∷ now.trail) o ≡ new_store capacity old.used.slots
      here = ap (λ (b : Bool). cond b (new_store capacity old.used.slots) (store_in now.trail o)) (eq-eqb o o refl)
