use Rattle.hc_heap.specs.States.{Goes}
use Rattle.hc_slots.specs.Anew.{AreMoved}
use Rattle.hc_slots.proofs.anew.move_slots.Given as goal

-- the first k slots hold for the other map what they held
abbrev pub invariant-loop-k : goal.invariant-loop-k
invariant-loop-k g l = record {
  moved : AreMoved l.fn.h.view l.h.view l.fn.object l.fn.map l.fn.other l.k;
  goes : Goes l.fn.h.desk l.h.desk;
  went : g.P.Pace.went l.fn.h.pace l.fn.h.desk.trail l.h.desk.trail l.h.pace;
}
