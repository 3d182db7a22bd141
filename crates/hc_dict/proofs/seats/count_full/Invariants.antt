use Rattle.std.proofs.Common.{◌≡◌, ℕ, ◌-◌, ◌*◌, ◌<◌, min, get_or}
use Rattle.hc_dict.proofs.seats.count_full.Given as goal

abbrev pub invariant-loop-count : goal.invariant-loop-count
invariant-loop-count l = record {
  rest : l.rest ≡ l.len - 64 * l.count-index;
  full : (b : ℕ) → b < l.count-index → get_or l.counts b 0 ≡ min 64 (l.len - 64 * b);
}
