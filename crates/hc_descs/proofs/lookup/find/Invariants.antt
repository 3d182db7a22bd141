use Rattle.std.proofs.Common.{◌≡◌, ◌+◌}
use Rattle.hc_heap.specs.States.{OnlyLoads}
use Rattle.hc_descs.specs.Entries.{LacksName}
use Rattle.hc_descs.proofs.lookup.find.Given as goal

-- the entries so far have other names
abbrev pub invariant-loop-i : goal.invariant-loop-i
invariant-loop-i g l = record {
  same : l.h ≡ record l.fn.h { desk = l.h.desk };
  loads : OnlyLoads (l.i + 2) l.fn.h.desk l.h.desk;
  went : g.P.Pace.went l.fn.h.pace l.fn.h.desk.trail l.h.desk.trail l.h.pace;
  lacks : LacksName l.fn.h.view.trail l.fn.map l.i l.fn.name;
}
