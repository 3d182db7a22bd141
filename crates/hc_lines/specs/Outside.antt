-- What reads and writes do to bytes that are told or not told.
use Rattle.std.specs.Prelude.{◌≡◌, ℕ, ◌+◌, ◌-◌, ◌^◌, ◌≤◌, min, List, [], ◌++◌, Option, Some, None}

-- what was left is this piece and then what is left now; whether bytes are told doesn't change
abbrev pub TakesBytes : Option (List ℕ) → List ℕ → Option (List ℕ) → Type 0
TakesBytes None piece None = Unit {0}
TakesBytes None piece (Some after) = ⊥
TakesBytes (Some before) piece None = ⊥
TakesBytes (Some before) piece (Some after) = before ≡ piece ++ after

-- what is taken now is what was taken and then this piece
abbrev pub AppendsBytes : Option (List ℕ) → List ℕ → Option (List ℕ) → Type 0
AppendsBytes None piece None = Unit {0}
AppendsBytes None piece (Some after) = ⊥
AppendsBytes (Some before) piece None = ⊥
AppendsBytes (Some before) piece (Some after) = after ≡ before ++ piece

-- nothing is left, where the bytes are told
abbrev pub IsAtEnd : Option (List ℕ) → Type 0
IsAtEnd None = Unit {0}
IsAtEnd (Some left) = left ≡ []

-- a count rose, or stands at the end of its type
abbrev pub Rose : ℕ → ℕ → Type 0
Rose before now = min (before + 1) (2 ^ 64 - 1) ≤ now
