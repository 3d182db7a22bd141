use Rattle.std.proofs.Common.{◌≡◌, drop}
use Rattle.hc_layout.specs.Capacity.{cap_of, first_from}
use Rattle.hc_layout.proofs.capacity.cap.Given as goal

abbrev pub invariant-loop-capacity : goal.invariant-loop-capacity
invariant-loop-capacity l = cap_of l.k ≡ first_from l.k (drop l.capacity-index l.capacity-items)
