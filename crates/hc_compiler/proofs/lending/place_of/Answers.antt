use Rattle.std.proofs.Common.{arith}
use Rattle.hc_compiler.proofs.Handing.{first-at, first-past, none-more}
use Rattle.hc_compiler.proofs.lending.place_of.Goals as goal

pub loop-i-preserved : goal.loop-i-preserved
loop-i-preserved c = (
  omega (arith, c.loop-i-test.true),
  none-more c.args.number c.args.jobs.now c.loop-i.i _ c.number.result c.loop-i.invariant.1 c.loop-i-test.true c.number.ensures c.if-number.true,
)

pub returns-else-number-clause-first : goal.returns-else-number-clause-first
returns-else-number-clause-first c = first-at c.args.number c.args.jobs.now c.loop-i.i _ c.number.result c.loop-i-test.true c.number.ensures c.if-number.false

pub returns-after-loop-i-clause-first : goal.returns-after-loop-i-clause-first
returns-after-loop-i-clause-first c = first-past c.args.number c.args.jobs.now c.loop-i.i c.loop-i-test.false
