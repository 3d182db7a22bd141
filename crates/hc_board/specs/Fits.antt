-- What it means that reads fit a trail.
use Rattle.std.specs.Prelude.{◌≡◌, ◌==◌, ℕ, zero, suc, ◌-◌, ◌≤◌, nat_le, cond, List, [], ◌∷◌, Option, Some, None, option_and_then}
use Rattle.hc_board.specs.Trail.{Access, word_at}

-- each read has the word of some position, none before that of the read before it, and all from `from` to `upto`
unfoldable pub ReadsFit : ℕ → List Access → ℕ → ℕ → List Access → Type 0
ReadsFit width trail from upto [] = from ≤ upto
ReadsFit width trail from upto (read ∷ rest) = (position : ℕ) × (from ≤ position) × (word_at width trail position read.0 ≡ read.1) × ReadsFit width trail position upto rest

-- the reads are words of this one position
unfoldable pub AreOf : ℕ → List Access → ℕ → List Access → Type 0
AreOf width trail position [] = Unit {0}
AreOf width trail position (read ∷ rest) = (word_at width trail position read.0 ≡ read.1) × AreOf width trail position rest

-- the earliest position that serves a read, among `room` of them from `from` on
unfoldable pub first_at : ℕ → List Access → Access → ℕ → ℕ → Option ℕ
first_at width trail read from zero = None
first_at width trail read from (suc room) = cond (word_at width trail from read.0 == read.1) (Some from) (first_at width trail read (suc from) room)

-- the position of the last read, where each read has the earliest position that serves
unfoldable pub earliest : ℕ → List Access → ℕ → ℕ → List Access → Option ℕ
earliest width trail from upto [] = cond (nat_le from upto) (Some from) None
earliest width trail from upto (read ∷ rest) = option_and_then (λ (position : ℕ). earliest width trail position upto rest) (first_at width trail read from (suc upto - from))
