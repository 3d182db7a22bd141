use Rattle.std.proofs.Common.{length}
use Rattle.hc_cells.specs.Chains.{chain_from}
use Rattle.hc_cells.proofs.Walks.{Came}
use Rattle.hc_cells.proofs.chain.goes_through.Given as goal

abbrev pub invariant-loop-at : goal.invariant-loop-at
invariant-loop-at g l = Came l.fn.h l.h l.protos l.fn.from l.fn.object l.at

abbrev pub decreases-loop-at : goal.decreases-loop-at
decreases-loop-at g l = length (chain_from l.fn.h.view.trail l.protos l.at)
