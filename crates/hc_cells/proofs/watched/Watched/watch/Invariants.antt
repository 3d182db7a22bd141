use Rattle.std.proofs.Common.{length}
use Rattle.hc_cells.specs.Chains.{chain_from}
use Rattle.hc_cells.proofs.Marking.{Marked}
use Rattle.hc_cells.proofs.watched.Watched.watch.Given as goal

abbrev pub invariant-loop-at : goal.invariant-loop-at
invariant-loop-at g l = Marked l.fn.h l.h l.protos l.from l.fn.self l.self-inside.marks.items l.at

abbrev pub decreases-loop-at : goal.decreases-loop-at
decreases-loop-at g l = length (chain_from l.fn.h.view.trail l.protos l.at)
