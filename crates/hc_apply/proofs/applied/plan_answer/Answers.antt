use Rattle.std.proofs.Common.{◌*◌, length, arith}
use Rattle.hc_deps.specs.Looks.{looks-then}
use Rattle.hc_apply.specs.Answers.{value_looks}
use Rattle.hc_apply.proofs.Bounds.{map-first}
use Rattle.hc_apply.proofs.applied.plan_answer.Goals as goal

pub returns-clause-looks : goal.returns-clause-looks
returns-clause-looks g c =
    looks-then g.met.L.Look.goes_on c.map_of.ensures.looks c.first_answer.ensures.looks (omega arith) (map-first (length c.args.plan.now.cases * value_looks c.args.value.now))
