use Rattle.hc_heap.specs.States.{Goes}
use Rattle.hc_tree.specs.Walking.{AreJoined}
use Rattle.hc_tree.proofs.retarget.admit_all.Given as goal

-- the first k fields were joined
abbrev pub invariant-loop-k : goal.invariant-loop-k
invariant-loop-k g l = record {
  joined : AreJoined l.fn.h.view l.h.view l.fn.end l.fn.map l.fn.stop l.fn.count l.fn.n l.k;
  goes : Goes l.fn.h.desk l.h.desk;
  went : g.P.Pace.went l.fn.h.pace l.fn.h.desk.trail l.h.desk.trail l.h.pace;
}
