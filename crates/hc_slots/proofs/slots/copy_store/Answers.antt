use Rattle.std.proofs.Common.{◌≡◌, ap, sym, subst}
use Rattle.hc_heap.specs.Kept.{Adds}
use Rattle.hc_heap.specs.Frames.{adds-none}
use Rattle.hc_heap.specs.States.{View, HeapState}
use Rattle.hc_slots.specs.Slots.{FillsSlots}
use Rattle.hc_slots.proofs.slots.copy_store.Goals as goal

pub returns-in_default-clause-writes : goal.returns-in_default-clause-writes
returns-in_default-clause-writes g c =
    let v = c.args.h.now.view in
    let same : c.store-store.new.self.view ≡ v = ap (λ (s : HeapState g.row.P.Denot). s.view) c.store-store.ensures.new in
    subst (λ (w : View). Adds (FillsSlots c.args.upto) v.trail w.trail) (sym same) (adds-none v.trail)
