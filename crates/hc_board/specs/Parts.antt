-- A reader's reads, in parts.
use Rattle.std.specs.Prelude.{ℕ, ◌≤◌, List, [], ◌∷◌, ◌++◌, length}
use Rattle.hc_board.specs.Trail.{Access}
use Rattle.hc_board.specs.Fits.{ReadsFit}

-- a part: the position at which it began, its reads in order, and the position at which it ended
pub record Part : Type 0 where
  pub begin : ℕ
  pub reads : List Access
  pub end : ℕ

-- an entry of the met list: the parts of a reader that was met, the oldest first
abbrev pub MetEntry : Type 0
MetEntry = List Part

-- each part begins where or after the one before ended, and fits from its beginning to its end
unfoldable pub InOrder : ℕ → List Access → ℕ → ℕ → MetEntry → Type 0
InOrder width trail from upto [] = from ≤ upto
InOrder width trail from upto (part ∷ rest) = (from ≤ part.begin) × ReadsFit width trail part.begin part.end part.reads × InOrder width trail part.end upto rest

-- the parts fit the trail, in order
unfoldable pub EntryFits : ℕ → List Access → MetEntry → Type 0
EntryFits width trail entry = InOrder width trail 0 (length trail) entry

-- each met entry fits the trail
abbrev pub MetFit : ℕ → List Access → List MetEntry → Type 0
MetFit width trail [] = Unit {0}
MetFit width trail (entry ∷ rest) = EntryFits width trail entry × MetFit width trail rest

-- the reads of these parts, one after another
unfoldable pub reads_of : MetEntry → List Access
reads_of [] = []
reads_of (part ∷ rest) = part.reads ++ reads_of rest

-- where the first of these parts began, or else the one that follows them
unfoldable pub start_of : MetEntry → ℕ → ℕ
start_of [] begin = begin
start_of (part ∷ rest) begin = part.begin

-- the parts with one more, which ends here
abbrev pub ended : MetEntry → ℕ → List Access → ℕ → MetEntry
ended parts begin reads end = parts ++ record { begin = begin; reads = reads; end = end } ∷ []
