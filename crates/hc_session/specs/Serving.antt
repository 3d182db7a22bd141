-- What serving a command does, to objects, sites, jobs and the log.
use Rattle.std.specs.Prelude.{◌≡◌, ◌⊎◌, ◌<◌, ℕ, Bool, true, false, IsSomeAnd, List, [], ◌∷◌, ◌++◌, length, slice_get, Option, Some, None}
use Rattle.hc_board.specs.States.{counted}
use Rattle.hc_board.specs.Trail.{Access}
use Rattle.hc_value.specs.declared.reply.Reply.{Reply}
use Rattle.hc_value.specs.declared.value.Value.{Value}
use Rattle.hc_ops.specs.Act.{Act}
use Rattle.hc_installed.specs.Answers.{IsGiven, IsHit}
use Rattle.hc_installed.specs.Installed.{AreInstalled}
use Rattle.hc_compiler.specs.Jobs.{Compiling}
use Rattle.hc_heap.specs.States.{Goes}
use Rattle.hc_modes.specs.Admitting.{FactsStay}
use Rattle.hc_modes.specs.Rest.{AreCalm}
use Rattle.hc_modes.specs.State.{ObjectsState}
use Rattle.hc_plan.specs.declared.case.Site.{Site}
use Rattle.hc_sites.specs.declared.state.SiteState.{SiteState}
use Rattle.hc_table.specs.Changes.{after}
use Rattle.hc_table.specs.Kept.{with_world}
use Rattle.hc_commands.specs.declared.command.Command.{Command}
use Rattle.hc_commands.specs.declared.command.Command.TheVariants.{Exec}
use Rattle.hc_report.specs.declared.line.Line.{Line}
use Rattle.hc_report.specs.declared.line.Line.TheVariants.{Cache, Slow}
use Rattle.hc_session.specs.Jobs.{Works}
use Rattle.hc_session.specs.Plain.{act_in, is_accepted_job, is_of_jobs}
use Rattle.hc_session.specs.Plans.{Chooses, Chosen, sites_ready, by_plan, IsChosen, answer_lines, chosen_line, lines_lost, lines_ready, sites_left}
use Rattle.hc_session.specs.Standing.{plain_among, plain_with, tables_of}
use Rattle.hc_session.specs.State.{Became, IsCheap, IsCheapBy, IsTrueReply, Used, sites_at, sites_by}
use Rattle.hc_session.specs.Tables.{IsReplyOf, did_in, says}
use Rattle.hc_session.specs.Using.{AreReadied, is_accepted}

-- each site's name is one of so many
abbrev pub AreNamedSites : ℕ → List Site → Type 0
AreNamedSites count sites = (n : ℕ) (site : Site) → slice_get sites n ≡ Some site → site.name < count

-- what a command puts into the log that isn't one of jobs: an access the plans that its receiver's migration broke, and then what
-- answered, each with how many stores there were; and at its end each command the plans that it broke
abbrev pub lines_of : {P : Type 0} → ObjectsState P → List SiteState → Command → Chosen → ObjectsState P → List (ℕ × Line)
lines_of ready sites command chosen now =
    lines_ready ready sites command ++ (answer_lines ready sites command chosen ++ lines_lost now (sites_by ready sites command chosen))

-- the line of an access that no plan answers
abbrev pub way_line : Bool → ℕ → Line
way_line true s = Cache s
way_line false s = Slow s

-- where a plan answers an access, the plans of sites are borne there
abbrev pub Bears : {P : Type 0} → ObjectsState P → List SiteState → Command → Chosen → Type 0
Bears ready sites command (by_plan case) = AreInstalled ready.heap.view.shape ready.heap.view.trail (sites_ready ready sites command)
Bears ready sites command chosen = Unit {0}

-- a command that isn't one of jobs, and is answered: its reply is the one that tables with sites give, true of how objects are kept;
-- the objects that it uses are migrated, and then change so; an access is answered by its site's plan, the inline cache, or full
-- lookup, and at rest; the sites and the lines of the log are these; and what plans and inline caches answer is cheap
pub record Serves {P : Type 0} (went : P → List Access → List Access → P → Type 0) (objects : ObjectsState P) (sites : List SiteState) (log : List (ℕ × Line)) (command : Command) (reply : Reply) (objects_now : ObjectsState P) (sites_now : List SiteState) (log_now : List (ℕ × Line)) : Type 0 where
  pub reply_is : IsReplyOf command (act_in (plain_with objects sites) command) reply
  pub tables_are : tables_of objects_now ≡ with_world (tables_of objects) (after (did_in (act_in (plain_with objects sites) command)) (tables_of objects).world)
  pub kept : IsTrueReply objects_now command reply
  pub used : Used went objects (is_accepted (plain_with objects sites) command) command (did_in (act_in (plain_with objects sites) command)) objects_now
  pub chosen : Chosen
  pub chooses : Chooses used.ready sites command chosen
  pub bears : Bears used.ready sites command chosen
  pub sites_are : sites_now ≡ sites_left objects_now (sites_by used.ready sites command chosen)
  pub lines_are : log_now ≡ log ++ lines_of used.ready sites command chosen objects_now
  pub cheap : IsCheap objects used.ready sites command chosen objects_now

-- a command of jobs that is answered: its reply is the one that the jobs give which are open; it does what it does where it is
-- accepted, and else nothing
pub record ServesJobs {P : Type 0} (objects : ObjectsState P) (sites : List SiteState) (compiler : Compiling) (log : List (ℕ × Line)) (command : Command) (reply : Reply) (objects_now : ObjectsState P) (sites_now : List SiteState) (compiler_now : Compiling) (log_now : List (ℕ × Line)) : Type 0 where
  pub of_jobs : is_of_jobs command ≡ true
  pub reply_is : act_in (plain_among objects sites compiler) command ≡ Some (says reply)
  pub lines : List (ℕ × Line)
  pub lines_are : log_now ≡ log ++ lines
  pub works : Works (is_accepted_job (plain_among objects sites compiler) command) objects sites compiler command objects_now sites_now compiler_now lines
  pub refused : is_accepted_job (plain_among objects sites compiler) command ≡ false → (objects_now ≡ objects) × ((sites_now ≡ sites) × (lines ≡ []))

-- any other command, which does nothing to jobs
pub record ServesBeside {P : Type 0} (goes_with : P → List Access → List Access → P → Type 0) (objects : ObjectsState P) (sites : List SiteState) (compiler : Compiling) (log : List (ℕ × Line)) (command : Command) (reply : Reply) (objects_now : ObjectsState P) (sites_now : List SiteState) (compiler_now : Compiling) (log_now : List (ℕ × Line)) : Type 0 where
  pub not_of_jobs : is_of_jobs command ≡ false
  pub serves : Serves goes_with objects sites log command reply objects_now sites_now log_now
  pub compiler_is : compiler_now ≡ compiler

-- a command of either kind
abbrev pub Attends : {P : Type 0} → (P → List Access → List Access → P → Type 0) → ObjectsState P → List SiteState → Compiling → List (ℕ × Line) → Command → Reply → ObjectsState P → List SiteState → Compiling → List (ℕ × Line) → Type 0
Attends went objects sites compiler log command reply objects_now sites_now compiler_now log_now =
    ServesBeside went objects sites compiler log command reply objects_now sites_now compiler_now log_now
    ⊎ ServesJobs objects sites compiler log command reply objects_now sites_now compiler_now log_now

-- what objects keep, whatever commands do: the shape stays, the writer goes on, what fields say stays true, and no map becomes unstable
-- that a prototype has
pub record KeepsOn {P : Type 0} (a b : ObjectsState P) : Type 0 where
  pub shape : b.heap.view.shape ≡ a.heap.view.shape
  pub goes : Goes a.heap.desk b.heap.desk
  pub facts : FactsStay a.heap.view.shape a.heap.view.trail b.heap.view.trail
  pub calm : AreCalm a.heap.view.trail → AreCalm b.heap.view.trail
