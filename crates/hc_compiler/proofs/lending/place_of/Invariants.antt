use Rattle.std.proofs.Common.{◌≡◌, ◌-◌, ◌≤◌, false, length, map, take}
use Rattle.hc_compiler.specs.Jobs.{is_lent}
use Rattle.hc_compiler.specs.Lending.{given_to}
use Rattle.hc_compiler.proofs.lending.place_of.Given as goal

abbrev pub invariant-loop-i : goal.invariant-loop-i
invariant-loop-i l = (l.i ≤ length l.jobs) × (is_lent (map given_to (take l.i l.jobs)) l.number ≡ false)

abbrev pub decreases-loop-i : goal.decreases-loop-i
decreases-loop-i l = length l.jobs - l.i
