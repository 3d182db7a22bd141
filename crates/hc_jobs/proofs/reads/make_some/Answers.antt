use Rattle.std.proofs.Common.{sym, ◌∙◌, arith}
use Rattle.hc_jobs.proofs.Running.{run-none, run-more}
use Rattle.hc_jobs.proofs.reads.make_some.Goals as goal

pub loop-made-init : goal.loop-made-init
loop-made-init c = (omega arith, run-none c.args.job.now c.args.reader.now c.requires.own)

pub loop-made-preserved : goal.loop-made-preserved
loop-made-preserved c = (
  omega (arith, c.loop-made-test.true),
  run-more c.args.job.now c.loop-made.job c.step.new.self c.args.reader.now c.loop-made.reader c.step.new.reader c.loop-made.made c.loop-made.invariant.1
      (sym c.is_done.ensures ∙ c.if-is_done.false) c.step.ensures.own c.step.ensures.turn c.step.ensures.same,
)
