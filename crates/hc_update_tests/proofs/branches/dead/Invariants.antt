use Rattle.std.proofs.Common.{◌≤◌}
use Rattle.hc_update_tests.proofs.branches.dead.Given as goal

-- no more maps were counted than were looked at
abbrev pub invariant-loop-map : goal.invariant-loop-map
invariant-loop-map l = l.count ≤ l.map
