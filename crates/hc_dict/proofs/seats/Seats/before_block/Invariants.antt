use Rattle.std.proofs.Common.{◌≡◌, ◌*◌}
use Rattle.hc_dict.specs.Dict.{before}
use Rattle.hc_dict.proofs.seats.Seats.before_block.Given as goal

abbrev pub invariant-loop-b : goal.invariant-loop-b
invariant-loop-b l = l.sum ≡ before l.self-inside.row.items (64 * l.b)
