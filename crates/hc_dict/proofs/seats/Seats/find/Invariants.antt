use Rattle.std.proofs.Common.{◌≡◌, ◌+◌}
use Rattle.hc_dict.specs.Dict.{before}
use Rattle.hc_dict.proofs.seats.Seats.find.Given as goal

abbrev pub invariant-loop-seat : goal.invariant-loop-seat
invariant-loop-seat l = before l.self-inside.row.items l.seat + l.rest ≡ l.place
