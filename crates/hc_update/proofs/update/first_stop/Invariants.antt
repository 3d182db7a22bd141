use Rattle.std.proofs.Common.{◌≡◌, ◌<◌, ℕ, true}
use Rattle.hc_heap.specs.States.{Goes}
use Rattle.hc_tree.specs.Details.{fits_at}
use Rattle.hc_update.proofs.update.first_stop.Given as goal

-- all join in place before the k-th
abbrev pub invariant-loop-k : goal.invariant-loop-k
invariant-loop-k g l = record {
  same : l.h ≡ record l.fn.h { desk = l.h.desk };
  before : (j : ℕ) → j < l.k → fits_at l.fn.h.view.trail l.fn.end l.fn.map j ≡ true;
  goes : Goes l.fn.h.desk l.h.desk;
  went : g.P.Pace.went l.fn.h.pace l.fn.h.desk.trail l.h.desk.trail l.h.pace;
}
