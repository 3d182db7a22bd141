use Rattle.std.proofs.Common.{◌≡◌, ℕ, None, get_or, length}
use Rattle.hc_index.proofs.entries.EntryIndex.new.Given as goal

abbrev pub invariant-loop-row : goal.invariant-loop-row
invariant-loop-row l = record {
  as_many : length l.rows.items ≡ l._row;
  none : (i : ℕ) → get_or l.rows.items i None ≡ None;
}
