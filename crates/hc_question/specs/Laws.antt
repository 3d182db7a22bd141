-- What holds of every list of reads.
use Rattle.std.specs.Prelude.{◌≡◌, ◌≤◌, ℕ, Bool, true, nat_lt, if◌then◌else◌, List}
use Rattle.hc_board.specs.Trail.{Access, word_at}
use Rattle.hc_board.specs.Fits.{AreOf, ReadsFit}
use Rattle.hc_layout.specs.Shape.{items_of}
use Rattle.hc_layout.specs.declared.shape.Shape.{Shape}
use Rattle.hc_heap.specs.Kinds.{region_of}
use Rattle.hc_plan.specs.declared.case.Site.{Site}
use Rattle.hc_broker.specs.Peeks.{index_asked}
use Rattle.hc_question.specs.declared.outcome.Outcome.{Outcome}
use Rattle.hc_question.specs.Ask.{Ask, tell, stop, look, asked_after}
use Rattle.hc_question.specs.Told.{IsTold}

-- a site, its feedback and a list of reads tell at most one outcome
abbrev pub ToldIsOne : Type 0
ToldIsOne = (s : Shape) (site : ℕ) (what : Site) (maps : List ℕ) (mega : Bool) (reads : List Access) (a b : Outcome)
    → IsTold s site what maps mega reads a → IsTold s site what maps mega reads b → a ≡ b

-- a question answered by these words alone
unfoldable pub answered_by : Shape → (ℕ → ℕ) → Ask → Ask
answered_by s words (tell cases skips) = tell cases skips
answered_by s words stop = stop
answered_by s words (look kind item next) =
    if nat_lt item (items_of s (region_of kind)) then answered_by s words (next (words (index_asked s kind item))) else stop

-- reads of one position leave a question as far from its answer as the words of that position do
abbrev pub OnePositionAnswers : Type 0
OnePositionAnswers = (s : Shape) (width : ℕ) (trail : List Access) (position : ℕ) (reads : List Access) (ask : Ask)
    → AreOf width trail position reads → answered_by s (word_at width trail position) (asked_after s reads ask) ≡ answered_by s (word_at width trail position) ask

-- no read from here to there gives a question up: each item that it looks at is on the board, and so is what
-- follows by each word that it may have
unfoldable pub IsSafe : Shape → ℕ → List Access → ℕ → ℕ → Ask → Type 0
IsSafe s width trail from upto (tell cases skips) = Unit {0}
IsSafe s width trail from upto stop = ⊥
IsSafe s width trail from upto (look kind item next) =
    (nat_lt item (items_of s (region_of kind)) ≡ true)
    × ((position : ℕ) → from ≤ position → position ≤ upto → IsSafe s width trail position upto (next (word_at width trail position (index_asked s kind item))))

-- reads that fit give up no question that is safe
abbrev pub FitsNeverStop : Type 0
FitsNeverStop = (s : Shape) (width : ℕ) (trail : List Access) (from upto : ℕ) (reads : List Access) (ask : Ask)
    → IsSafe s width trail from upto ask → ReadsFit width trail from upto reads → asked_after s reads ask ≡ stop → ⊥
