use Rattle.std.proofs.Common.{◌≡◌, ◌-◌, ◌≤◌, length, take}
use Rattle.indexmap.specs.IndexMap.{spare}
use Rattle.hc_dict.specs.Dict.{LeadToSeats}
use Rattle.hc_dict.proofs.number.Given as goal

abbrev pub invariant-loop-seat : goal.invariant-loop-seat
invariant-loop-seat l = record {
  found : LeadToSeats l.names.entries (take l.seat l.seats);
  as_many : length l.names.entries ≡ l.seat;
  room : length l.seats - l.seat ≤ spare l.names;
}
