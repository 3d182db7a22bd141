use Rattle.std.proofs.Common.{ℕ}
use Rattle.hc_planner.specs.Jobs.{looks_left}
use Rattle.hc_jobs.proofs.Running.{IsRun}
use Rattle.hc_jobs.proofs.reads.make_all.Given as goal

abbrev pub invariant-loop-job : goal.invariant-loop-job
invariant-loop-job l = (made : ℕ) × IsRun l.initial.job l.job l.initial.reader l.reader made

abbrev pub decreases-loop-job : goal.decreases-loop-job
decreases-loop-job l = looks_left l.job
