use Rattle.std.proofs.Common.{sym, ◌∙◌, ◌+◌}
use Rattle.hc_jobs.proofs.Running.{run-none, run-more}
use Rattle.hc_jobs.proofs.reads.work.Goals as goal

pub loop-k-init : goal.loop-k-init
loop-k-init g c = (0, run-none c.args.job c.args.reader c.requires.own)

pub loop-k-preserved : goal.loop-k-preserved
loop-k-preserved g c = (
  c.loop-k.invariant.0 + 1,
  run-more c.args.job c.loop-k.job c.step.new.self c.args.reader c.loop-k.reader c.step.new.reader c.loop-k.invariant.0 c.loop-k.invariant.1
      (sym c.is_done.ensures ∙ c.loop-k-test.true) c.step.ensures.own c.step.ensures.turn c.step.ensures.same,
)
