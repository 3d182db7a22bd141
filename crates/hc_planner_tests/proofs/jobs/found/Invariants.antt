use Rattle.hc_planner.specs.Jobs.{IsOwn, looks_left}
use Rattle.hc_planner_tests.proofs.jobs.found.Given as goal

abbrev pub invariant-loop-job : goal.invariant-loop-job
invariant-loop-job l = IsOwn l.job l.reader

abbrev pub decreases-loop-job : goal.decreases-loop-job
decreases-loop-job l = looks_left l.job
