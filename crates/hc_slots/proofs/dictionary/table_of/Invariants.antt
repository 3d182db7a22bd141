use Rattle.std.proofs.Common.{◌≡◌, ◌≤◌}
use Rattle.hc_slots.proofs.Unmoved.{IsUnmoved}
use Rattle.hc_slots.specs.Listed.{listed}
use Rattle.hc_slots.specs.Meaning.{prop_in}
use Rattle.hc_slots.proofs.dictionary.table_of.Given as goal

-- the first k properties are in the table
abbrev pub invariant-loop-k : goal.invariant-loop-k
invariant-loop-k g l = record {
  props : l.props ≡ listed (prop_in l.fn.h.view.trail l.fn.object l.fn.map) l.k;
  still : IsUnmoved l.fn.h l.h;
  loads : l.fn.h.desk.loads ≤ l.h.desk.loads;
}
