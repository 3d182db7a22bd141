-- What a buffer of bytes keeps.
use Rattle.std.specs.Prelude.{ℕ, ◌+◌, ◌≤◌, List, length, take, drop}
use Rattle.hc_lines.specs.Lines.{IsUnbroken}

-- the bytes begin within the buffer, and so many of them hold no newline
pub record IsBuffer (bytes : List ℕ) (start scanned : ℕ) : Type 0 where
  pub within : start + scanned ≤ length bytes
  pub unbroken : IsUnbroken (take scanned (drop start bytes))
