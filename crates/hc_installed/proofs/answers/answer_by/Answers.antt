use Rattle.hc_installed.proofs.Applying.{done-first}
use Rattle.hc_installed.proofs.answers.answer_by.Goals as goal

pub returns-clause-given : goal.returns-clause-given
returns-clause-given g c =
    done-first g.P.Pace.went c.loads_come_first.ensures.came c.args.objects.now c.apply_plan-applied.new.objects c.perform.new.objects c.args.o c.args.plan.now.name c.args.value.now c.perform.result
    c.apply_plan-applied.ensures.still c.perform.ensures.given
