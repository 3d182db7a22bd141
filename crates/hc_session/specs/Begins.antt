-- What becomes of a job that a caller asks for.
use Rattle.std.specs.Prelude.{◌≡◌, ◌⊎◌, ◌<◌, ◌≤◌, ℕ, ◌+◌, List, [], ◌∷◌, ◌++◌, length, slice_get, Some}
use Rattle.hc_compiler.specs.Calls.{IsNewJob, Lends}
use Rattle.hc_compiler.specs.Jobs.{Compiling, open_count}
use Rattle.hc_jobs.specs.declared.table.OpenJob.{OpenJob}
use Rattle.hc_modes.specs.State.{ObjectsState}
use Rattle.hc_planner.specs.Jobs.{IsOwn}
use Rattle.hc_sites.specs.declared.state.SiteState.{SiteState}
use Rattle.hc_session.specs.Logging.{mark_of}
use Rattle.hc_session.specs.Standing.{Standing}
use Rattle.hc_session.specs.State.{IsAsBefore}
use Rattle.hc_session.specs.declared.begun.Begun.{Begun}
use Rattle.hc_session.specs.declared.begun.Begun.TheVariants.{Started, NoSite, NoRoom}

-- a job was started for a site, with what that has seen of maps so far: it is new and has the next number; its reader is of the board,
-- has no read and begins here; and a caller has it from now on
pub record HasLent {P : Type 0} (a : ObjectsState P) (sites : List SiteState) (c : Compiling) (s : ℕ) (x : OpenJob) (now : Compiling) : Type 0 where
  pub state : SiteState
  pub site : slice_get sites s ≡ Some state
  pub room : open_count c < 64
  pub job : IsNewJob a c.started s state x
  pub own : IsOwn x.job x.reader
  pub lends : Lends c.lent x now.lent
  pub started : now.started ≡ c.started + 1
  pub jobs : now.jobs ≡ c.jobs

-- the site isn't there; or it is and 64 jobs are open, those that callers have among them; or else a caller has got a job
abbrev pub IsBegun : {P : Type 0} → ObjectsState P → List SiteState → Compiling → ℕ → Begun → Compiling → Type 0
IsBegun a sites c s NoSite now = (length sites ≤ s) × (now ≡ c)
IsBegun a sites c s NoRoom now = (s < length sites) × (64 ≤ open_count c) × (now ≡ c)
IsBegun a sites c s (Started job reader) now = HasLent a sites c s (record { job = job; reader = reader }) now

-- a call has its mark, and objects, sites and log are as before
pub record HasOnlyMark {P : Type 0} (old new : Standing P) : Type 0 where
  pub objects : new.objects ≡ old.objects
  pub sites : new.sites ≡ old.sites
  pub log : new.log ≡ old.log
  pub mark : new.marks ≡ old.marks ++ mark_of old ∷ []

-- a caller asked for a job of a site, and was answered
pub record Begins {P : Type 0} (old : Standing P) (s : ℕ) (begun : Begun) (new : Standing P) : Type 0 where
  pub answers : IsBegun old.objects old.sites old.compiler s begun new.compiler
  pub marked : HasOnlyMark old new

-- or memory was wanting: there was none for the mark and the lines of the log, or the call has its mark, and nothing else was done
abbrev pub WantsToBegin : {P : Type 0} → Standing P → Standing P → Type 0
WantsToBegin old new = IsAsBefore old new ⊎ (HasOnlyMark old new × (new.compiler ≡ old.compiler))
