-- What holds of questions in a lawful trail, each law the contract of a function of `laws.rt`.
use Rattle.std.specs.Prelude.{◌≤◌, ◌⊎◌, ℕ, Bool, IsSome, List, All, length}
use Rattle.hc_board.specs.Trail.{Access}
use Rattle.hc_board.specs.Fits.{ReadsFit}
use Rattle.hc_layout.specs.Shape.{words_of}
use Rattle.hc_layout.specs.declared.shape.Shape.{Shape}
use Rattle.hc_heap.specs.Decode.{typed}
use Rattle.hc_heap.specs.Kept.{at}
use Rattle.hc_heap.specs.Lawful.{Lawful}
use Rattle.hc_heap.specs.Readings.{gate_in}
use Rattle.hc_heap.specs.Writes.{Trail}
use Rattle.hc_links.specs.Chains.{links_in}
use Rattle.hc_plan.specs.declared.case.Site.{Site}
use Rattle.hc_question.specs.Laws.{IsSafe}
use Rattle.hc_question.specs.Question.{question}
use Rattle.hc_question.specs.Told.{IsTold, TellsNothing}
use Rattle.hc_question.specs.declared.outcome.Outcome.{Outcome}

-- a map has no more links than the board: they are all different
abbrev pub LinksAreFew : Type 0
LinksAreFew = (s : Shape) (t : Trail) (m : ℕ) → Lawful s t → length (links_in t m) ≤ s.links

-- the gates of these maps are written
abbrev pub AreWritten : Trail → List ℕ → Type 0
AreWritten t maps = All (λ m. IsSome (gate_in t m)) maps

-- the stores are lawful writes, and at this position the maps of the feedback are written
pub record Begins (s : Shape) (stores : List Access) (position : ℕ) (maps : List ℕ) : Type 0 where
  pub lawful : Lawful s (typed s stores)
  pub written : AreWritten (at position (typed s stores)) maps

-- no read from there on gives up the question of the feedback
abbrev pub QuestionsAreSafe : Type 0
QuestionsAreSafe = (s : Shape) (stores : List Access) (from upto : ℕ) (what : Site) (maps : List ℕ) (mega : Bool)
    → Begins s stores from maps → IsSafe s (words_of s) stores from upto (question s what maps mega)

-- reads that fit from there on never leave it untold
abbrev pub NoJobStops : Type 0
NoJobStops = (s : Shape) (stores : List Access) (from upto : ℕ) (what : Site) (maps : List ℕ) (mega : Bool) (reads : List Access)
    → Begins s stores from maps → ReadsFit (words_of s) stores from upto reads → TellsNothing s what maps mega reads → ⊥

-- so the reads of a job that is finished tell its outcome
abbrev pub ReadsTell : Type 0
ReadsTell = (s : Shape) (stores : List Access) (from upto site : ℕ) (what : Site) (maps : List ℕ) (mega : Bool) (reads : List Access) (outcome : Outcome)
    → Begins s stores from maps → ReadsFit (words_of s) stores from upto reads
    → IsTold s site what maps mega reads outcome ⊎ TellsNothing s what maps mega reads
    → IsTold s site what maps mega reads outcome
