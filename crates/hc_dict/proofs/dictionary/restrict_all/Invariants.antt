use Rattle.std.proofs.Common.{◌≡◌}
use Rattle.hc_table.specs.Attributes.{restricted}
use Rattle.hc_dict.proofs.Restricting.{mapped}
use Rattle.hc_dict.proofs.dictionary.restrict_all.Given as goal

-- the first properties are restricted
abbrev pub invariant-loop-i : goal.invariant-loop-i
invariant-loop-i l = record {
  props : l.props ≡ mapped (restricted l.fn.frozen) l.i l.fn.props;
}
