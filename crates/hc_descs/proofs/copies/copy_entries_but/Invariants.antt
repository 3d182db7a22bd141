use Rattle.std.proofs.Common.{◌≡◌}
use Rattle.hc_heap.specs.States.{IsHeap, Goes}
use Rattle.hc_descs.specs.Entries.{key_at}
use Rattle.hc_descs.specs.Copies.{field_but}
use Rattle.hc_descs.specs.Filling.{IsFilled}
use Rattle.hc_descs.proofs.copies.copy_entries_but.Given as goal

-- the first k entries were written
abbrev pub invariant-loop-k : goal.invariant-loop-k
invariant-loop-k g l = record {
  view : l.h.view ≡ record l.fn.h.view { trail = l.h.view.trail };
  filled : IsFilled l.fn.h.view.trail l.h.view.trail l.fn.to l.k (key_at l.fn.h.view.trail l.fn.map) (field_but l.fn.h.view.trail l.fn.map l.fn.place l.fn.field);
  heap : IsHeap l.h.view;
  goes : Goes l.fn.h.desk l.h.desk;
  went : g.P.Pace.went l.fn.h.pace l.fn.h.desk.trail l.h.desk.trail l.h.pace;
}
