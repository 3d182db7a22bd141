-- What contracts see of a job, what it still asks, and which reader is its own.
use Rattle.std.specs.Prelude.{◌≡◌, ◌<◌, ℕ, Bool, true, false, if◌then◌else◌, Option, List, [], ◌∷◌, map, slice_get}
use Rattle.hc_board.specs.Trail.{Access}
use Rattle.hc_board.specs.States.{ReaderState, reads_made}
use Rattle.hc_board.specs.Looked.{reader_looked}
use Rattle.hc_layout.specs.declared.shape.Shape.{Shape}
use Rattle.hc_plan.specs.declared.case.Site.{Site}
use Rattle.hc_question.specs.Ask.{Ask, tell, stop, look, LeadsTo}
use Rattle.hc_question.specs.Question.{question}
use Rattle.hc_planner.specs.declared.at.At.{At}
use Rattle.hc_planner.specs.declared.at.At.TheVariants.{Map, Chain, Field, Link, Ended, Stopped}
use Rattle.hc_planner.specs.declared.at.MapLook.TheVariants.{Bits}
use Rattle.hc_planner.specs.declared.seeker.Seeker.{Seeker}
use Rattle.hc_plan.specs.declared.case.Case.{Case}
use Rattle.hc_plan.specs.declared.skip.Skip.{Skip}
use Rattle.hc_question.specs.Told.{outcome_of}
use Rattle.hc_question.specs.declared.outcome.Outcome.{Outcome}
use Rattle.hc_planner.specs.Left.{left_of}
use Rattle.hc_planner.specs.Machine.{asks_of}

-- a job: its number, its site and the feedback that it was given, the shape of the board, and one seeker for each map
pub record JobState : Type 0 where
  pub id : ℕ
  pub site : ℕ
  pub what : Site
  pub maps : List ℕ
  pub mega : Bool
  pub shape : Shape
  pub seekers : List Seeker

-- what a job still asks
abbrev pub asks : JobState → Ask
asks job = if job.mega then tell [] [] else asks_of job.seekers [] []

-- how many looks a job makes at most: far more than it ever does, but fewer after each look
abbrev pub looks_left : JobState → ℕ
looks_left job = left_of job.seekers

-- reads are a job's own: each is the look that the job asked for, and they bring its question to what it asks now
abbrev pub AreOwn : JobState → List Access → Type 0
AreOwn job reads = LeadsTo job.shape (question job.shape job.what job.maps job.mega) reads (asks job)

-- a reader is a job's own where its reads are
abbrev pub IsOwn : JobState → ReaderState → Type 0
IsOwn job reader = AreOwn job (reads_made reader)

-- a question that asks no more
unfoldable pub is_done : Ask → Bool
is_done (tell cases skips) = true
is_done stop = true
is_done (look kind item next) = false

-- one look was made, the one that was asked for, and fewer are left
pub record LooksOn (old new : JobState) (before after : ReaderState) : Type 0 where
  pub read : Access
  pub looked : reader_looked before (read ∷ []) after
  pub leads : LeadsTo old.shape (asks old) (read ∷ []) (asks new)
  pub fewer : looks_left new < looks_left old

-- a job that is done looks no more
pub record Rests (old new : JobState) (before after : ReaderState) : Type 0 where
  pub done : is_done (asks old) ≡ true
  pub job : new ≡ old
  pub reader : after ≡ before

-- one look was made for seekers
pub record SeekersLook (s : Shape) (old new : List Seeker) (before after : ReaderState) : Type 0 where
  pub read : Access
  pub looked : reader_looked before (read ∷ []) after
  pub leads : LeadsTo s (asks_of old [] []) (read ∷ []) (asks_of new [] [])
  pub fewer : left_of new < left_of old

-- seekers that ask no more look no more
pub record SeekersRest (old new : List Seeker) (before after : ReaderState) : Type 0 where
  pub done : is_done (asks_of old [] []) ≡ true
  pub seekers : new ≡ old
  pub reader : after ≡ before

-- the maps of a feedback, in four places
abbrev pub in_four : List ℕ → List (Option ℕ)
in_four maps = slice_get maps 0 ∷ slice_get maps 1 ∷ slice_get maps 2 ∷ slice_get maps 3 ∷ []

-- whether a seeker has a look to make
abbrev pub is_looking : At → Bool
is_looking (Map at) = true
is_looking (Chain at) = true
is_looking (Field at) = true
is_looking (Link at) = true
is_looking (Ended answer) = false
is_looking Stopped = false

-- whether a seeker has its answer
abbrev pub is_ended : At → Bool
is_ended (Ended answer) = true
is_ended _ = false

-- a seeker that hasn't looked yet
abbrev pub new_seeker : Site → ℕ → ℕ → Seeker
new_seeker what most number = record {
  search = record { what = what; most = most; map = number; gate = record { entries = 0; is_private = false; is_locked = false }; chain = [] };
  at = Map Bits;
}

-- the maps of seekers
abbrev pub maps_of : List Seeker → List ℕ
maps_of seekers = map (λ x. x.search.map) seekers

-- each of these seekers has its answer
unfoldable pub AreEnded : List Seeker → Type 0
AreEnded [] = Unit {0}
AreEnded (x ∷ xs) = (is_ended x.at ≡ true) × AreEnded xs

-- where seekers tell cases and skips, they are these
abbrev pub TellsOnly : List Seeker → List Case → List Skip → Type 0
TellsOnly seekers cases skips = (told : List Case) (passed : List Skip) → asks_of seekers [] [] ≡ tell told passed → (cases ≡ told) × (skips ≡ passed)

-- where seekers tell cases and skips, the outcome is that of these
abbrev pub HasOutcome : ℕ → Site → Bool → List Seeker → Outcome → Type 0
HasOutcome site what mega seekers outcome =
    (told : List Case) (passed : List Skip) → (if mega then tell [] [] else asks_of seekers [] []) ≡ tell told passed → outcome ≡ outcome_of site what (maps_of seekers) mega told passed

-- what a seeker and others tell with these cases and skips, the others tell with those
abbrev pub GoOn : Seeker → List Case → List Skip → List Case → List Skip → Type 0
GoOn seeker cases skips longer more =
    (others : List Seeker) (told : List Case) (passed : List Skip) → asks_of (seeker ∷ others) cases skips ≡ tell told passed → asks_of others longer more ≡ tell told passed
