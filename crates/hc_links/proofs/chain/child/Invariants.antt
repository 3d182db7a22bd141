use Rattle.std.proofs.Common.{length}
use Rattle.hc_links.proofs.Turns.{Came}
use Rattle.hc_links.proofs.Walk.{steps}
use Rattle.hc_links.proofs.chain.child.Given as goal

abbrev pub invariant-loop-at : goal.invariant-loop-at
invariant-loop-at g l = Came l.fn.h l.h l.fn.map l.fn.key l.at

abbrev pub decreases-loop-at : goal.decreases-loop-at
decreases-loop-at g l = steps (length l.fn.h.view.trail) l.fn.h.view.trail l.at
