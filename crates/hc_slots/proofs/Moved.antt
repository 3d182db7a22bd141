-- An object that moved to new slots has room for one property more.
use Rattle.std.proofs.Common.{◌≡◌, ℕ, ◌+◌, sym, ap, ◌∙◌, arith}
use Rattle.hc_layout.specs.declared.shape.Shape.{Shape}
use Rattle.hc_layout.specs.declared.words.StoreWord.{StoreWord}
use Rattle.hc_heap.specs.Writes.{Write, Trail, Slot, Store}
use Rattle.hc_heap.specs.Readings.{store_in}
use Rattle.hc_heap.specs.Frames.{adds-wider}
use Rattle.hc_heap.specs.States.{View}
use Rattle.hc_slots.specs.Slots.{GrowsStore, HasMoved, FillsStore, IsFitted, slots_need, owns-new, handed-out}

fills-by : (old : View) (o : ℕ) (t : Trail) (w : Write) → GrowsStore o old.used.slots t w → FillsStore old o t w
fills-by old o t (Slot s w) e = λ lt. absurd (omega (arith, e, lt))
fills-by old o t (Store p w) e = e
fills-by old o t _ e = absurd e

pub moved-fits : (old new : View) (o n capacity : ℕ) → capacity ≡ slots_need n (store_in old.trail o).capacity → HasMoved old new o n capacity → IsFitted old new o n
moved-fits old new o n capacity need h =
    let first = ap (λ (w : StoreWord). w.first) h.store in
    let size : (store_in new.trail o).capacity ≡ capacity = ap (λ (w : StoreWord). w.capacity) h.store in
    let slots : new.used.slots ≡ old.used.slots + capacity = ap (λ (s : Shape). s.slots) h.used in
    record {
      writes = adds-wider (fills-by old o) h.writes;
      shape = h.shape;
      used = h.used ∙ ap (λ (n : ℕ). let s : Shape = record old.used { slots = n } in s) (sym slots);
      slots = omega (arith, slots);
      more = omega (arith, slots, need);
      store = handed-out new.used.slots old.used.slots (store_in new.trail o) first (omega (arith, size, slots));
      owns = λ s owns lt. absurd (owns-new new.trail o old.used.slots s first owns lt);
      room = omega (arith, size, h.more);
      words = h.words;
    }
