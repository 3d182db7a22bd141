-- The jobs that were started, those that are open, and those that callers have.
use Rattle.std.specs.Prelude.{◌≡◌, ◌≢◌, ℕ, ◌+◌, ◌<◌, ◌≤◌, ◌==◌, Bool, true, false, if◌then◌else◌, is_some, Option, Some, None, List, [], ◌∷◌, length, option_map}
use Rattle.hc_board.specs.States.{beginning}
use Rattle.hc_plan.specs.declared.case.Site.{Site}
use Rattle.hc_heap.specs.Kept.{at}
use Rattle.hc_answers.specs.Laws.{AreWritten}
use Rattle.hc_jobs.specs.Opened.{is_open, open_at}
use Rattle.hc_jobs.specs.declared.table.OpenJob.{OpenJob}
use Rattle.hc_modes.specs.State.{ObjectsState}

-- what a job was given when it was started: its number and its site, what the site does, the maps that it had seen and whether
-- there were too many, and the position at which the job's reader began
pub record Opening : Type 0 where
  pub job : ℕ
  pub site : ℕ
  pub what : Site
  pub maps : List ℕ
  pub mega : Bool
  pub start : ℕ

abbrev pub opening_of : OpenJob → Opening
opening_of x = record { job = x.job.id; site = x.job.site; what = x.job.what; maps = x.job.maps; mega = x.job.mega; start = beginning x.reader }

-- how many jobs were started, those that are open, each with its reader, and what each job was given that a caller has
pub record Compiling : Type 0 where
  pub started : ℕ
  pub jobs : List OpenJob
  pub lent : List Opening

-- no job was started
abbrev pub no_jobs : Compiling
no_jobs = record { started = 0; jobs = []; lent = [] }

-- how many jobs are open, those that callers have among them
abbrev pub open_count : Compiling → ℕ
open_count c = length c.jobs + length c.lent

-- what the open job of a number was given
abbrev pub opening_at : List OpenJob → ℕ → Option Opening
opening_at jobs j = option_map opening_of (open_at jobs j)

-- what the job of a number was given that a caller has
abbrev pub lent_at : List Opening → ℕ → Option Opening
lent_at [] j = None
lent_at (given ∷ lent) j = if given.job == j then Some given else lent_at lent j

-- a caller has the job of a number
abbrev pub is_lent : List Opening → ℕ → Bool
is_lent lent j = is_some (lent_at lent j)

-- jobs are numbered from 0 in the order in which they were started, and none is in the table that a caller has
pub record AreNumbered (c : Compiling) : Type 0 where
  pub open_below : (j : ℕ) → is_open c.jobs j ≡ true → j < c.started
  pub lent_below : (j : ℕ) → is_lent c.lent j ≡ true → j < c.started
  pub apart : (j : ℕ) → is_open c.jobs j ≡ true → is_lent c.lent j ≡ false

-- numbers are so, and at most 64 jobs are open
pub record IsCompiling (c : Compiling) : Type 0 where
  pub numbers : AreNumbered c
  pub few : open_count c ≤ 64

-- a job reads the words of these objects, and the maps of its feedback were written where its reader began
pub record IsReading {P : Type 0} (s : ObjectsState P) (x : OpenJob) : Type 0 where
  pub shape : x.job.shape ≡ s.heap.view.shape
  pub board : x.reader.board ≡ s.heap.desk.board
  pub start : beginning x.reader ≤ length s.heap.desk.trail
  pub written : AreWritten (at (beginning x.reader) s.heap.view.trail) x.job.maps

-- each open job does
abbrev pub AreReading : {P : Type 0} → ObjectsState P → List OpenJob → Type 0
AreReading s jobs = (j : ℕ) (x : OpenJob) → open_at jobs j ≡ Some x → IsReading s x

-- the other jobs are open, or not, as they were
abbrev pub OthersStay : List OpenJob → List OpenJob → ℕ → Type 0
OthersStay old new j = (other : ℕ) → other ≢ j → open_at new other ≡ open_at old other

-- callers have the other jobs, or not, as they had
abbrev pub OthersStayLent : List Opening → List Opening → ℕ → Type 0
OthersStayLent old new j = (other : ℕ) → other ≢ j → lent_at new other ≡ lent_at old other
