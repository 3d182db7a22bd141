use Rattle.std.proofs.Common.{length, ◌-◌, ◌≤◌, take}
use Rattle.hc_planner.specs.Jobs.{AreEnded}
use Rattle.hc_planner.proofs.job.first_asking.Given as goal

abbrev pub invariant-loop-i : goal.invariant-loop-i
invariant-loop-i l = (l.i ≤ length l.seekers) × AreEnded (take l.i l.seekers)

abbrev pub decreases-loop-i : goal.decreases-loop-i
decreases-loop-i l = length l.seekers - l.i
