-- The jobs of a table, found by their numbers.
use Rattle.std.specs.Prelude.{◌≡◌, ◌≢◌, ◌≤◌, ◌==◌, ℕ, Bool, false, if◌then◌else◌, is_some, Option, Some, None, List, [], ◌∷◌, ◌++◌, length}
use Rattle.hc_planner.specs.Jobs.{IsOwn}
use Rattle.hc_jobs.specs.declared.table.OpenJob.{OpenJob}

-- a job has this number
abbrev pub has_number : ℕ → OpenJob → Bool
has_number number x = x.job.id == number

-- the job of a number, with its reader
abbrev pub open_at : List OpenJob → ℕ → Option OpenJob
open_at [] number = None
open_at (x ∷ xs) number = if has_number number x then Some x else open_at xs number

abbrev pub is_open : List OpenJob → ℕ → Bool
is_open jobs number = is_some (open_at jobs number)

-- the other jobs
abbrev pub without : ℕ → List OpenJob → List OpenJob
without number [] = []
without number (x ∷ xs) = if has_number number x then xs else x ∷ without number xs

-- none of these jobs has this number
abbrev pub AreOthers : ℕ → List OpenJob → Type 0
AreOthers number [] = Unit {0}
AreOthers number (x ∷ xs) = (has_number number x ≡ false) × AreOthers number xs

-- each is a job and its own reader, and no two have one number
abbrev pub AreOpen : List OpenJob → Type 0
AreOpen [] = Unit {0}
AreOpen (x ∷ xs) = IsOwn x.job x.reader × AreOthers x.job.id xs × AreOpen xs

-- at most 64 jobs are open, and there is room for as many
pub record IsTable (jobs : List OpenJob) (capacity : ℕ) : Type 0 where
  pub few : length jobs ≤ 64
  pub room : 64 ≤ capacity
  pub pairs : AreOpen jobs

-- a job that is taken out, or put in, leaves the others where they are
abbrev pub OthersStayOpen : Type 0
OthersStayOpen = (jobs : List OpenJob) (x : OpenJob) (number other : ℕ) → other ≢ number
    → (open_at (without number jobs) other ≡ open_at jobs other)
    × (x.job.id ≡ number → open_at (jobs ++ x ∷ []) other ≡ open_at jobs other)
