use Rattle.std.proofs.Common.{◌+◌, ◌*◌, length, rules}
use Rattle.hc_apply.specs.Answers.{value_looks}
use Rattle.hc_apply.proofs.Bounds.{looks-within, plan-within}
use Rattle.hc_apply.proofs.applied.apply.Goals as goal

pub returns-clause-looks : goal.returns-clause-looks
returns-clause-looks g c =
    looks-within {most = length c.args.plan.now.cases * value_looks c.args.value + 3} (search rules)
    (plan-within c.args.plan.now.op c.args.value (length c.args.plan.now.cases) c.requires.given)
