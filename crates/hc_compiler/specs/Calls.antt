-- What the calls do with jobs.
use Rattle.std.specs.Prelude.{◌≡◌, ℕ, ◌+◌, false, IsSomeAnd, Some, List, length}
use Rattle.hc_board.specs.States.{beginning, counted, new_reader, position_of}
use Rattle.hc_board.specs.Trail.{Access}
use Rattle.hc_planner.specs.Jobs.{JobState}
use Rattle.hc_jobs.specs.Opened.{is_open, open_at}
use Rattle.hc_jobs.specs.declared.reads.Reads.{Reads}
use Rattle.hc_jobs.specs.declared.reads.Reads.TheVariants.{All}
use Rattle.hc_jobs.specs.declared.table.OpenJob.{OpenJob}
use Rattle.hc_modes.specs.State.{ObjectsState}
use Rattle.hc_sites.specs.declared.state.SiteState.{SiteState}
use Rattle.hc_compiler.specs.Batches.{MakesBatch, after_batch}
use Rattle.hc_compiler.specs.Jobs.{Opening, OthersStay, OthersStayLent, is_lent, lent_at, opening_at, opening_of}

-- a new job, with the site and the feedback of this moment; its reader is of the board, has no read and starts here
pub record IsNewJob {P : Type 0} (a : ObjectsState P) (j s : ℕ) (state : SiteState) (x : OpenJob) : Type 0 where
  pub given : opening_of x ≡ record { job = j; site = s; what = state.site; maps = state.maps; mega = state.mega; start = position_of a.heap.desk }
  pub shape : x.job.shape ≡ a.heap.view.shape
  pub reader : x.reader ≡ new_reader a.heap.desk.board (position_of a.heap.desk)

-- beside the open jobs there is this one now, new, with this number
pub record Starts {P : Type 0} (a : ObjectsState P) (jobs : List OpenJob) (j s : ℕ) (state : SiteState) (later : List OpenJob) : Type 0 where
  pub now : IsSomeAnd (open_at later j) (IsNewJob a j s state)
  pub others : OthersStay jobs later j
  pub count : length later ≡ length jobs + 1

-- beside the jobs that callers have there is this one now, as it was given when it was started, with the position at which its
-- reader began as readers count it
pub record Lends (lent : List Opening) (x : OpenJob) (later : List Opening) : Type 0 where
  pub now : lent_at later x.job.id ≡ Some (record (opening_of x) { start = counted (beginning x.reader) })
  pub others : OthersStayLent lent later x.job.id
  pub count : length later ≡ length lent + 1

-- of the jobs that callers have, that of a number was taken back
pub record TakesBack (lent : List Opening) (j : ℕ) (later : List Opening) : Type 0 where
  pub gone : is_lent later j ≡ false
  pub others : OthersStayLent lent later j
  pub count : length later + 1 ≡ length lent

-- of the open jobs, that of a number made a batch of reads, and is open still, with what it was given
pub record Steps {P : Type 0} (n : Reads) (a : ObjectsState P) (jobs : List OpenJob) (j : ℕ) (b : ObjectsState P) (later : List OpenJob) : Type 0 where
  pub x : OpenJob
  pub made : List Access
  pub job : JobState
  pub was : open_at jobs j ≡ Some x
  pub batch : MakesBatch n a x made job b
  pub now : open_at later j ≡ Some (record { job = job; reader = after_batch x.reader (position_of a.heap.desk) made })
  pub given : opening_at later j ≡ opening_at jobs j
  pub others : OthersStay jobs later j
  pub count : length later ≡ length jobs

-- of the open jobs, that of a number made all reads that were left, and is open no more
pub record Finishes {P : Type 0} (a : ObjectsState P) (jobs : List OpenJob) (j : ℕ) (b : ObjectsState P) (later : List OpenJob) : Type 0 where
  pub x : OpenJob
  pub made : List Access
  pub job : JobState
  pub was : open_at jobs j ≡ Some x
  pub batch : MakesBatch All a x made job b
  pub gone : is_open later j ≡ false
  pub others : OthersStay jobs later j
  pub count : length later + 1 ≡ length jobs
