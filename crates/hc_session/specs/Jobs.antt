-- What commands of jobs do, and what holds of sites and jobs between commands.
use Rattle.std.specs.Prelude.{◌≡◌, ◌⊎◌, ℕ, ◌+◌, Bool, true, false, List, [], Some, IsSomeAnd, length, slice_get}
use Rattle.hc_board.specs.Parts.{MetEntry}
use Rattle.hc_heap.specs.Writes.{Trail}
use Rattle.hc_answers.specs.Laws.{AreWritten}
use Rattle.hc_commands.specs.declared.command.Command.{Command}
use Rattle.hc_commands.specs.declared.command.Command.TheVariants.{Compile, Step, Finish}
use Rattle.hc_commands.specs.declared.command.Reads.{Reads as Asked}
use Rattle.hc_commands.specs.declared.command.Reads.TheVariants.{Count as AskedCount, All as AskedAll}
use Rattle.hc_jobs.specs.declared.reads.Reads.{Reads}
use Rattle.hc_jobs.specs.declared.reads.Reads.TheVariants.{Count, All}
use Rattle.hc_modes.specs.Readers.{with_entries}
use Rattle.hc_modes.specs.State.{ObjectsState}
use Rattle.hc_objects.specs.Came.{IsStill}
use Rattle.hc_question.specs.declared.outcome.Outcome.{Outcome}
use Rattle.hc_report.specs.declared.line.Line.{Line}
use Rattle.hc_sites.specs.declared.state.SiteState.{SiteState}
use Rattle.hc_compiler.specs.Calls.{Finishes, Starts, Steps}
use Rattle.hc_compiler.specs.Ends.{HasEnded}
use Rattle.hc_compiler.specs.Jobs.{Compiling, Opening, is_lent, opening_at}
use Rattle.hc_deps.specs.declared.verdict.Verdict.{Verdict}
use Rattle.hc_session.specs.Plans.{HasSettled}

-- What commands of jobs do

-- how many reads a command asks for
abbrev pub reads_for : Asked → Reads
reads_for (AskedCount n) = Count n
reads_for AskedAll = All

-- a job was started for a site, with what that has seen of maps so far, and nothing else was done
pub record HasStarted {P : Type 0} (a : ObjectsState P) (sites : List SiteState) (c : Compiling) (s : ℕ) (b : ObjectsState P) (now : Compiling) : Type 0 where
  pub state : SiteState
  pub site : slice_get sites s ≡ Some state
  pub starts : Starts a c.jobs c.started s state now.jobs
  pub started : now.started ≡ c.started + 1
  pub lent : now.lent ≡ c.lent
  pub same : b ≡ a

-- an open job made so many reads, in a part of their own, which begins and ends where the command began
pub record HasStepped {P : Type 0} (n : Reads) (a : ObjectsState P) (c : Compiling) (j : ℕ) (b : ObjectsState P) (now : Compiling) : Type 0 where
  pub steps : Steps n a c.jobs j b now.jobs
  pub started : now.started ≡ c.started
  pub lent : now.lent ≡ c.lent

-- an open job made all reads that were left, likewise, and ended with an outcome, which its reads tell. Then the words were looked at
-- on which its plan depends
pub record HasFinished {P : Type 0} (a : ObjectsState P) (c : Compiling) (j : ℕ) (outcome : Outcome) (b : ObjectsState P) (now : Compiling) : Type 0 where
  pub met : ObjectsState P
  pub finishes : Finishes a c.jobs j met now.jobs
  pub looked : IsStill met b
  pub ended : HasEnded c.jobs j outcome b
  pub started : now.started ≡ c.started
  pub lent : now.lent ≡ c.lent

-- what a command does to the objects, the sites and the jobs, and the lines that the log gets, where it is one of jobs that is accepted:
-- the outcome of a job that ends is settled. No other command does anything to jobs
abbrev pub Works : {P : Type 0} → Bool → ObjectsState P → List SiteState → Compiling → Command → ObjectsState P → List SiteState → Compiling → List (ℕ × Line) → Type 0
Works true a sites c (Compile s) b sites_now now lines = HasStarted a sites c s b now × (sites_now ≡ sites) × (lines ≡ [])
Works true a sites c (Step j reads) b sites_now now lines = HasStepped (reads_for reads) a c j b now × (sites_now ≡ sites) × (lines ≡ [])
Works true a sites c (Finish j) b sites_now now lines =
    (outcome : Outcome) × (verdict : Verdict) × HasFinished a c j outcome b now × IsSomeAnd (opening_at c.jobs j) (λ given. HasSettled a sites given j outcome verdict b sites_now lines)
Works false a sites c (Finish j) b sites_now now lines = (now ≡ c) × (sites_now ≡ sites)
Works accepted a sites c command b sites_now now lines = now ≡ c

-- readers were met, and words looked at; nothing else was done
abbrev pub HaveMet : {P : Type 0} → ObjectsState P → ObjectsState P → Type 0
HaveMet a b = (entries : List MetEntry) × IsStill (with_entries a entries) b

-- the command is of no job that a caller has
abbrev pub IsNotLent : List Opening → Command → Type 0
IsNotLent lent (Step j reads) = is_lent lent j ≡ false
IsNotLent lent (Finish j) = is_lent lent j ≡ false
IsNotLent lent command = Unit {0}

-- Between commands

-- the maps that each site has seen are written
abbrev pub AreSeen : Trail → List SiteState → Type 0
AreSeen t sites = (n : ℕ) (state : SiteState) → slice_get sites n ≡ Some state → AreWritten t state.maps
