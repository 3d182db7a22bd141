use Rattle.std.proofs.Common.{ap, sym, subst, None}
use Rattle.hc_heap.specs.Writes.{Trail}
use Rattle.hc_heap.specs.Kept.{Adds}
use Rattle.hc_heap.specs.Frames.{adds-none}
use Rattle.hc_heap.specs.States.{HeapState}
use Rattle.hc_tree.specs.Growth.{MakesMap}
use Rattle.hc_tree.proofs.copies.private_copy.Goals as goal

pub returns-then-not-has_space-clause-writes : goal.returns-then-not-has_space-clause-writes
returns-then-not-has_space-clause-writes g c =
    let v = c.args.h.now.view in
    subst (λ (t : Trail). Adds (MakesMap v.used None) v.trail t) (sym (ap (λ (s : HeapState g.row.P.Denot). s.view.trail) c.gate.ensures.new)) (adds-none v.trail)
