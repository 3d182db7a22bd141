-- The reads that a job makes.
use Rattle.std.specs.Prelude.{◌≡◌, ◌<◌, ◌≤◌, ℕ, Bool, true, List, length}
use Rattle.hc_board.specs.Trail.{Access}
use Rattle.hc_board.specs.States.{ReaderState}
use Rattle.hc_board.specs.Looked.{reader_looked}
use Rattle.hc_question.specs.Ask.{LeadsTo}
use Rattle.hc_planner.specs.Jobs.{JobState, asks, is_done}
use Rattle.hc_jobs.specs.declared.reads.Reads.{Reads}
use Rattle.hc_jobs.specs.declared.reads.Reads.TheVariants.{Count, All}

-- these reads were made, each the look that the job asked for, and nothing else
pub record Makes (old new : JobState) (before after : ReaderState) (reads : List Access) : Type 0 where
  pub looked : reader_looked before reads after
  pub leads : LeadsTo old.shape (asks old) reads (asks new)

-- so many reads were made as were to be made, or all that were left
abbrev pub IsEnough : Reads → ℕ → Bool → Type 0
IsEnough All made done = done ≡ true
IsEnough (Count most) made done = (made ≤ most) × (made < most → done ≡ true)

-- a job made so many reads, or all that were left
pub record MakesReads (n : Reads) (old new : JobState) (before after : ReaderState) : Type 0 where
  pub reads : List Access
  pub makes : Makes old new before after reads
  pub enough : IsEnough n (length reads) (is_done (asks new))

-- a job made all reads that it asked for
pub record ReadsOn (old : JobState) (before after : ReaderState) : Type 0 where
  pub reads : List Access
  pub last : JobState
  pub makes : Makes old last before after reads
  pub done : is_done (asks last) ≡ true
