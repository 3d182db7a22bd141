use Rattle.std.proofs.Common.{ℕ}
use Rattle.hc_planner.specs.Jobs.{looks_left}
use Rattle.hc_jobs.proofs.Running.{IsRun}
use Rattle.hc_jobs.proofs.reads.work.Given as goal

abbrev pub invariant-loop-k : goal.invariant-loop-k
invariant-loop-k g l = (made : ℕ) × IsRun l.initial.job l.job l.initial.reader l.reader made

abbrev pub decreases-loop-k : goal.decreases-loop-k
decreases-loop-k g l = looks_left l.job
