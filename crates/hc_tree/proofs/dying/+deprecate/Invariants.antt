use Rattle.std.proofs.Common.{◌-◌, length}
use Rattle.hc_heap.specs.States.{Goes}
use Rattle.hc_tree.proofs.Deaths.{Dying, steps}
use Rattle.hc_tree.proofs.dying.+deprecate.Given as goal

-- children are younger than their parents
abbrev pub decreases-deprecate : goal.decreases-deprecate
decreases-deprecate g l = l.h.now.view.used.maps - l.map

-- the children of the links so far are deprecated
abbrev pub invariant-loop-at : goal.invariant-loop-at
invariant-loop-at g l = record {
  dying : Dying l.fn.h.view l.h.view l.fn.map l.at;
  goes : Goes l.fn.h.desk l.h.desk;
  went : g.P.Pace.went l.fn.h.pace l.fn.h.desk.trail l.h.desk.trail l.h.pace;
}

abbrev pub decreases-loop-at : goal.decreases-loop-at
decreases-loop-at g l = steps (length l.fn.h.view.trail) l.fn.h.view.trail l.at
