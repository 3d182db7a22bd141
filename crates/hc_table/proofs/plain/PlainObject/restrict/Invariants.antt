use Rattle.std.proofs.Common.{◌≡◌}
use Rattle.hc_table.specs.Attributes.{restricted}
use Rattle.hc_table.proofs.Mapping.{mapped_to}
use Rattle.hc_table.proofs.plain.PlainObject.restrict.Given as goal

abbrev pub invariant-loop-p : goal.invariant-loop-p
invariant-loop-p l = l.p-items ≡ mapped_to (restricted l.frozen) l.p-index l.initial.p-items
