use Rattle.std.proofs.Common.{sym, subst}
use Rattle.hc_table.specs.Attributes.{IsProper}
use Rattle.hc_ops.proofs.Changed.{IsProper-changed}
use Rattle.hc_ops.proofs.descriptor.define.Goals as goal

pub reconfigure-requires-clause-proper : goal.reconfigure-requires-clause-proper
reconfigure-requires-clause-proper g c =
    subst IsProper (sym c.changed.ensures) (IsProper-changed c.in-Some.own.property c.args.d.now c.in-Some.ensures.proper c.requires.range)
