use Rattle.std.proofs.Common.{◌≡◌}
use Rattle.hc_heap.specs.States.{Goes}
use Rattle.hc_tree.specs.Walking.{IsOnPath}
use Rattle.hc_tree.proofs.retarget.live_end.Given as goal

-- the walk came to a live map with k entries
abbrev pub invariant-loop-k : goal.invariant-loop-k
invariant-loop-k g l = record {
  same : l.h ≡ record l.fn.h { desk = l.h.desk };
  path : IsOnPath l.fn.h.view.trail l.fn.root l.fn.map l.at l.k;
  goes : Goes l.fn.h.desk l.h.desk;
  went : g.P.Pace.went l.fn.h.pace l.fn.h.desk.trail l.h.desk.trail l.h.pace;
}
