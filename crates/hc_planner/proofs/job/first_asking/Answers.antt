use Rattle.std.proofs.Common.{arith, sym, ◌∙◌}
use Rattle.hc_planner.proofs.Asking.{ended-none, ended-more, first-at, first-past}
use Rattle.hc_planner.proofs.job.first_asking.Goals as goal

pub loop-i-init : goal.loop-i-init
loop-i-init c = (omega arith, ended-none c.args.seekers.now)

pub loop-i-preserved : goal.loop-i-preserved
loop-i-preserved c = (
  omega (arith, c.loop-i-test.true),
  ended-more c.args.seekers.now c.loop-i.i c.index-seekers-i.result c.loop-i.invariant.1 c.loop-i-test.true c.index-seekers-i.is (sym c.is_ended.ensures ∙ c.if-is_ended.true),
)

pub returns-else-is_ended-clause-first : goal.returns-else-is_ended-clause-first
returns-else-is_ended-clause-first c =
    first-at c.args.seekers.now c.loop-i.i c.index-seekers-i.result c.loop-i-test.true c.index-seekers-i.is (sym c.is_ended.ensures ∙ c.if-is_ended.false)

pub returns-after-loop-i-clause-first : goal.returns-after-loop-i-clause-first
returns-after-loop-i-clause-first c = first-past c.args.seekers.now c.loop-i.i c.loop-i-test.false
