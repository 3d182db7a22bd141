use Rattle.std.proofs.Common.{sym, ◌∙◌, ◌+◌}
use Rattle.hc_jobs.proofs.Running.{run-none, run-more}
use Rattle.hc_jobs.proofs.reads.make_all.Goals as goal

pub loop-job-init : goal.loop-job-init
loop-job-init c = (0, run-none c.args.job.now c.args.reader.now c.requires.own)

pub loop-job-preserved : goal.loop-job-preserved
loop-job-preserved c = (
  c.loop-job.invariant.0 + 1,
  run-more c.args.job.now c.loop-job.job c.step.new.self c.args.reader.now c.loop-job.reader c.step.new.reader c.loop-job.invariant.0 c.loop-job.invariant.1
      (sym c.is_done.ensures ∙ c.loop-job-test.true) c.step.ensures.own c.step.ensures.turn c.step.ensures.same,
)
