-- How a new array is filled, entry by entry.
use Rattle.std.specs.Prelude.{◌≡◌, ℕ, ◌+◌, ◌<◌, ◌≤◌, Option}
use Rattle.hc_value.specs.declared.key.Key.{Key}
use Rattle.hc_heap.specs.Writes.{Write, Trail, EntryKey, Reference}
use Rattle.hc_heap.specs.Readings.{entry_key_in, reference_in}
use Rattle.hc_heap.specs.Kept.{Adds}
use Rattle.hc_descs.specs.Entries.{AreFree}

-- writes of entries, from a first one on
abbrev pub FillsEntries : ℕ → Trail → Write → Type 0
FillsEntries first t (EntryKey e key) = first ≤ e
FillsEntries first t (Reference e f) = first ≤ e
FillsEntries first t _ = ⊥

-- n entries from a first one on were written, with these keys and fields
pub record IsFilled (old new : Trail) (first n : ℕ) (key : ℕ → Option Key) (field : ℕ → Option ℕ) : Type 0 where
  pub writes : Adds (FillsEntries first) old new
  pub keys : (k : ℕ) → k < n → entry_key_in new (first + k) ≡ key k
  pub fields : (k : ℕ) → k < n → reference_in new (first + k) ≡ field k
  pub rest : AreFree new (first + n)
