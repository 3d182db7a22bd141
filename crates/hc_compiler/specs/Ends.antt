-- How a job ends.
use Rattle.std.specs.Prelude.{◌≡◌, ℕ, List, IsSomeAnd}
use Rattle.hc_board.specs.Parts.{EntryFits, MetEntry, reads_of, start_of}
use Rattle.hc_board.specs.Steps.{newest}
use Rattle.hc_modes.specs.State.{ObjectsState}
use Rattle.hc_question.specs.Told.{IsTold}
use Rattle.hc_question.specs.declared.outcome.Outcome.{Outcome}
use Rattle.hc_jobs.specs.declared.table.OpenJob.{OpenJob}
use Rattle.hc_compiler.specs.Jobs.{Opening, opening_at}

-- a met entry is that of a job that ended with this outcome: its first part begins where the job's reader began, its parts fit the
-- stores, and its reads tell the outcome of the site and the feedback that the job was given
pub record EndsWith {P : Type 0} (s : ObjectsState P) (given : Opening) (entry : MetEntry) (outcome : Outcome) : Type 0 where
  pub start : (begin : ℕ) → start_of entry begin ≡ given.start
  pub fits : EntryFits s.heap.desk.board.words s.heap.desk.trail entry
  pub told : IsTold s.heap.view.shape given.site given.what given.maps given.mega (reads_of entry) outcome

-- a job that was open ended with this outcome: so its entry says, the last that was met
abbrev pub HasEnded : {P : Type 0} → List OpenJob → ℕ → Outcome → ObjectsState P → Type 0
HasEnded jobs j outcome s = IsSomeAnd (opening_at jobs j) (λ given. EndsWith s given (newest s.heap.desk.met) outcome)
