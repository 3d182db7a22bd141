use Rattle.std.proofs.Common.{Some, sym, subst}
use Rattle.hc_heap.specs.Lawful.{LawfulObjectMap}
use Rattle.hc_heap.specs.States.{View}
use Rattle.hc_modes.proofs.Shrinking.{parent-lawful}
use Rattle.hc_modes.proofs.removing.move_to_parent.Goals as goal

pub set_object_map-requires-clause-lawful : goal.set_object_map-requires-clause-lawful
set_object_map-requires-clause-lawful g c =
    let v = c.args.h.now.view in
    subst (λ (w : View). LawfulObjectMap w.shape w.trail c.args.object (Some c.args.parent)) (sym c.mark_unstable.ensures.view)
    (parent-lawful v.shape v.trail c.args.object c.args.map c.args.parent c.requires.has c.requires.shared c.requires.parent_there c.requires.filled)
