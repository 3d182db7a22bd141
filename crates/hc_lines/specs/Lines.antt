-- The lines of a text. A line keeps its newline, so that its bytes are all that it holds.
use Rattle.std.specs.Prelude.{◌≡◌, ◌≢◌, ℕ, ◌-◌, ◌<◌, ◌≤◌, List, [], ◌∷◌, ◌++◌, length, take, slice_index, Option, Some, None, if◌then◌else◌, ◌==◌}
use Rattle.hc_lines.specs.declared.limits.TheConstants.{MAX_LINE}

-- a byte goes onto the first line of the rest
abbrev pub onto_first : ℕ → List (List ℕ) → List (List ℕ)
onto_first byte [] = (byte ∷ []) ∷ []
onto_first byte (line ∷ lines) = (byte ∷ line) ∷ lines

-- the lines: a newline (10) ends one, and what stands behind the last is one too, where it isn't empty
abbrev pub lines_of : List ℕ → List (List ℕ)
lines_of [] = []
lines_of (byte ∷ bytes) = if byte == 10 then (10 ∷ []) ∷ lines_of bytes else onto_first byte (lines_of bytes)

-- bytes without a newline
abbrev pub IsUnbroken : List ℕ → Type 0
IsUnbroken [] = Unit {0}
IsUnbroken (byte ∷ bytes) = (byte ≢ 10) × IsUnbroken bytes

-- bytes up to their first newline, with it
abbrev pub IsWholeLine : List ℕ → Type 0
IsWholeLine [] = ⊥
IsWholeLine (byte ∷ []) = byte ≡ 10
IsWholeLine (byte ∷ next ∷ bytes) = (byte ≢ 10) × IsWholeLine (next ∷ bytes)

-- a line: no byte but the last is a newline
abbrev pub IsLine : List ℕ → Type 0
IsLine [] = Unit {0}
IsLine (byte ∷ []) = Unit {0}
IsLine (byte ∷ next ∷ bytes) = (byte ≢ 10) × IsLine (next ∷ bytes)

-- what lies ahead of a reader: what it holds already, and then what its source has left, where that is told
abbrev pub ahead : List ℕ → Option (List ℕ) → Option (List ℕ)
ahead pending None = None
ahead pending (Some left) = Some (pending ++ left)

-- what was ahead is these lines and then what is ahead now
abbrev pub TakesLines : Option (List ℕ) → Option (List ℕ) → List (List ℕ) → Type 0
TakesLines None None lines = Unit {0}
TakesLines None (Some after) lines = ⊥
TakesLines (Some before) None lines = ⊥
TakesLines (Some before) (Some after) lines = lines_of before ≡ lines ++ lines_of after

-- what is ahead begins with these lines
abbrev pub StartsWithLines : Option (List ℕ) → List (List ℕ) → Type 0
StartsWithLines None lines = Unit {0}
StartsWithLines (Some before) lines = (rest : List (List ℕ)) × (lines_of before ≡ lines ++ rest)

-- a line without the newline that ends it
abbrev pub content : List ℕ → List ℕ
content line = if slice_index line (length line - 1) == 10 then take (length line - 1) line else line

-- the line has more bytes than a line may have
abbrev pub IsLong : List ℕ → Type 0
IsLong line = MAX_LINE < length (content line)

abbrev pub IsShort : List ℕ → Type 0
IsShort line = length (content line) ≤ MAX_LINE
