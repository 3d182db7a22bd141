use Rattle.std.proofs.Common.{◌≡◌, ◌+◌}
use Rattle.hc_heap.specs.States.{IsHeap, Goes}
use Rattle.hc_tree.proofs.Made.{AreMade}
use Rattle.hc_tree.proofs.fields.new_fields.Given as goal

-- the fields of the first k entries were made
abbrev pub invariant-loop-k : goal.invariant-loop-k
invariant-loop-k g l = record {
  view : l.h.view ≡ record l.fn.h.view { trail = l.h.view.trail; used = record l.fn.h.view.used { fields = l.fn.h.view.used.fields + l.k } };
  made : AreMade l.fn.h.view.trail l.h.view.trail l.fn.owner l.fn.map l.fn.h.view.used.fields l.k;
  heap : IsHeap l.h.view;
  goes : Goes l.fn.h.desk l.h.desk;
  went : g.P.Pace.went l.fn.h.pace l.fn.h.desk.trail l.h.desk.trail l.h.pace;
}
