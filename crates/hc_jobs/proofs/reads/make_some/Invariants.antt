use Rattle.std.proofs.Common.{◌≤◌, ◌-◌}
use Rattle.hc_jobs.proofs.Running.{IsRun}
use Rattle.hc_jobs.proofs.reads.make_some.Given as goal

abbrev pub invariant-loop-made : goal.invariant-loop-made
invariant-loop-made l = (l.made ≤ l.most) × IsRun l.initial.job l.job l.initial.reader l.reader l.made

abbrev pub decreases-loop-made : goal.decreases-loop-made
decreases-loop-made l = l.most - l.made
