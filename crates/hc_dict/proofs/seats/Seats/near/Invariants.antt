use Rattle.std.proofs.Common.{◌≡◌, ◌+◌, ◌-◌, ◌*◌, length}
use Rattle.hc_dict.specs.Dict.{before}
use Rattle.hc_dict.proofs.seats.Seats.near.Given as goal

abbrev pub invariant-loop-rest : goal.invariant-loop-rest
invariant-loop-rest l = before l.self-inside.row.items (64 * l.block) + l.rest ≡ l.place

abbrev pub decreases-loop-rest : goal.decreases-loop-rest
decreases-loop-rest l = length l.self-inside.counts.items - l.block
