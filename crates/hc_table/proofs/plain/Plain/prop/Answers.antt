use Rattle.std.proofs.Common.{◌<◌, length, subst, sym, ap, arith}
use Rattle.hc_table.specs.Attributes.{IsProper}
use Rattle.hc_table.proofs.Edits.{All-at}
use Rattle.hc_table.proofs.plain.Plain.prop.Goals as goal

pub returns-clause-proper : goal.returns-clause-proper
returns-clause-proper c =
    let within : c.args.i < length c.props.result.now = omega (arith, ap length c.props.ensures.props) in
    subst IsProper (sym c.index-props-i.is) (All-at IsProper c.props.result.now c.args.i c.index-props-i.result c.props.ensures.proper within)
