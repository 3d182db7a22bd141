use Rattle.std.proofs.Common.{length, ◌-◌, ◌≤◌, take}
use Rattle.hc_jobs.specs.Opened.{AreOthers}
use Rattle.hc_jobs.proofs.table.place_of.Given as goal

abbrev pub invariant-loop-i : goal.invariant-loop-i
invariant-loop-i l = (l.i ≤ length l.jobs) × AreOthers l.number (take l.i l.jobs)

abbrev pub decreases-loop-i : goal.decreases-loop-i
decreases-loop-i l = length l.jobs - l.i
