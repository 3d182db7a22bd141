use Rattle.std.proofs.Common.{◌≡◌}
use Rattle.hc_heap.specs.States.{IsHeap, Goes}
use Rattle.hc_cells.proofs.Invalid.{AreAsked}
use Rattle.hc_cells.proofs.cells.invalidate.Given as goal

abbrev pub invariant-loop-cell : goal.invariant-loop-cell
invariant-loop-cell g l = record {
  view : l.h.view ≡ record l.fn.h.view { trail = l.h.view.trail };
  asked : AreAsked l.fn.h.view.trail l.protos l.object l.h.view.trail l.cell l.fn.h.desk.loads l.h.desk.loads;
  heap : IsHeap l.h.view;
  goes : Goes l.fn.h.desk l.h.desk;
  went : g.P.Pace.went l.fn.h.pace l.fn.h.desk.trail l.h.desk.trail l.h.pace;
}
