-- What stands at the front of a buffer once a line was fetched.
use Rattle.std.specs.Prelude.{◌≡◌, ℕ, ◌+◌, ◌<◌, ◌≤◌, List, [], ◌∷◌, length, take, drop, Option, Some, None}
use Rattle.hc_lines.specs.Lines.{lines_of, ahead, IsUnbroken, IsLine, TakesLines, IsLong}
use Rattle.hc_lines.specs.Outside.{IsAtEnd}
use Rattle.hc_lines.specs.declared.fetch.Fetched.{Fetched}
use Rattle.hc_lines.specs.declared.fetch.Fetched.TheVariants.{Line, Nothing}
use Rattle.hc_lines.specs.declared.limits.TheConstants.{MAX_BYTES}

-- so many bytes at the front are the first line of what lies ahead, and it ends within the bytes of a script
pub record IsFirstLine (used : ℕ) (pending : List ℕ) (left : Option (List ℕ)) (n : ℕ) : Type 0 where
  pub some : 0 < n
  pub there : n ≤ length pending
  pub within : used + n ≤ MAX_BYTES
  pub line : IsLine (take n pending)
  pub first : TakesLines (ahead pending left) (ahead (drop n pending) left) (take n pending ∷ [])

abbrev pub IsFetched : ℕ → List ℕ → Option (List ℕ) → Fetched → Type 0
IsFetched used pending left (Line n) = IsFirstLine used pending left n
IsFetched used pending left Nothing = (pending ≡ []) × IsAtEnd left

-- the line that comes first ends past the most bytes of a script
abbrev pub LiesTooFar : ℕ → Option (List ℕ) → Type 0
LiesTooFar used None = Unit {0}
LiesTooFar used (Some before) =
    (line : List ℕ) × (rest : List (List ℕ)) × (lines_of before ≡ line ∷ rest) × (MAX_BYTES < used + length line)

-- the line that comes first ends within the bytes of a script, and is too long by itself
abbrev pub BeginsLong : ℕ → Option (List ℕ) → Type 0
BeginsLong used None = Unit {0}
BeginsLong used (Some before) =
    (line : List ℕ) × (rest : List (List ℕ)) × (lines_of before ≡ line ∷ rest) × (used + length line ≤ MAX_BYTES) × IsLong line

-- a part of a line was read and lost
abbrev pub LosesPart : Option (List ℕ) → Option (List ℕ) → Type 0
LosesPart before now = (lost : List ℕ) × IsUnbroken lost × (before ≡ ahead lost now)
