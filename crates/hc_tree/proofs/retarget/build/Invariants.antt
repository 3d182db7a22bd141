use Rattle.hc_heap.specs.States.{Goes}
use Rattle.hc_tree.specs.Walking.{IsBuilt, wanted_at}
use Rattle.hc_tree.proofs.retarget.build.Given as goal

-- the map with the first k keys was made
abbrev pub invariant-loop-k : goal.invariant-loop-k
invariant-loop-k g l = record {
  built : IsBuilt (wanted_at l.fn.h.view.trail l.fn.map l.fn.count l.fn.wanted) l.fn.h.view l.h.view l.fn.base l.fn.map l.at l.fn.count l.fn.n l.k;
  goes : Goes l.fn.h.desk l.h.desk;
  went : g.P.Pace.went l.fn.h.pace l.fn.h.desk.trail l.h.desk.trail l.h.pace;
}
