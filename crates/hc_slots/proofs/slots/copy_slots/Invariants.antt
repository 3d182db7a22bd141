use Rattle.std.proofs.Common.{◌≡◌}
use Rattle.hc_heap.specs.States.{IsHeap, Goes}
use Rattle.hc_slots.specs.Slots.{AreCopied}
use Rattle.hc_slots.proofs.slots.copy_slots.Given as goal

-- the first k words were copied
abbrev pub invariant-loop-k : goal.invariant-loop-k
invariant-loop-k g l = record {
  view : l.h.view ≡ record l.fn.h.view { trail = l.h.view.trail };
  copied : AreCopied l.fn.h.view.trail l.h.view.trail l.fn.from l.fn.upto l.k;
  heap : IsHeap l.h.view;
  goes : Goes l.fn.h.desk l.h.desk;
  went : g.P.Pace.went l.fn.h.pace l.fn.h.desk.trail l.h.desk.trail l.h.pace;
}
