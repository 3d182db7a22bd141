use Rattle.std.proofs.Common.{◌≡◌}
use Rattle.hc_dict.specs.Dict.{before}
use Rattle.hc_dict.proofs.seats.Seats.before.Given as goal

abbrev pub invariant-loop-s : goal.invariant-loop-s
invariant-loop-s l = l.sum ≡ before l.self-inside.row.items l.s
