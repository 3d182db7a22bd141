-- What an index of entries knows.
use Rattle.std.specs.Prelude.{ℕ, ◌+◌, ◌*◌, ◌%◌, List, Option, Some, None, if◌then◌else◌, ◌&&◌, ◌==◌, slice_index_or}
use Rattle.hc_index.specs.declared.entries.Answer.{Answer}

-- the row of the table for a map and a name
abbrev pub row_of : ℕ → ℕ → ℕ
row_of map name = (map * 67 + name) % 16384

-- the place in an answer, where it is one for the map and the name
abbrev pub place_in : ℕ → ℕ → Option Answer → Option (Option ℕ)
place_in map name None = None
place_in map name (Some answer) = if answer.map == map && answer.name == name then Some answer.place else None

-- the place that a name has in a map, or that it has none there, as it was noted
abbrev pub place_known : List (Option Answer) → ℕ → ℕ → Option (Option ℕ)
place_known rows map name = place_in map name (slice_index_or rows (row_of map name) None)
