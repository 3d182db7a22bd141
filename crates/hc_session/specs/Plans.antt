-- By what an access of a site is answered, and what becomes of the plans of sites.
use Rattle.std.specs.Prelude.{◌≡◌, ◌⊎◌, ℕ, ◌≤◌, true, false, if◌then◌else◌, List, [], ◌∷◌, ◌++◌, length, Option, Some, None, IfSome, IsSomeAnd, slice_get}
use Rattle.std.specs.List.{AllByRecursion}
use Rattle.hc_board.specs.States.{beginning, counted, reads_made, words_of}
use Rattle.hc_value.specs.declared.value.Value.{Value}
use Rattle.hc_heap.specs.Kept.{at}
use Rattle.hc_modes.specs.State.{ObjectsState}
use Rattle.hc_plan.specs.declared.deps.Dep.{Dep}
use Rattle.hc_plan.specs.declared.plan.Plan.{Plan}
use Rattle.hc_question.specs.declared.outcome.Outcome.{Outcome}
use Rattle.hc_planner.specs.Jobs.{asks, is_done}
use Rattle.hc_jobs.specs.Opened.{open_at}
use Rattle.hc_jobs.specs.declared.table.OpenJob.{OpenJob}
use Rattle.hc_sites.specs.State.{plan_at}
use Rattle.hc_sites.specs.declared.state.SiteState.{SiteState}
use Rattle.hc_deps.specs.Holds.{HoldsButValue}
use Rattle.hc_deps.specs.Trails.{HoldsIn}
use Rattle.hc_deps.specs.Verdicts.{IsFirstBroken, sites_after}
use Rattle.hc_deps.specs.declared.verdict.Verdict.{Verdict}
use Rattle.hc_deps.specs.declared.verdict.Verdict.TheVariants.{Refused}
use Rattle.hc_soundness.specs.Borne.{NamesLive}
use Rattle.hc_soundness.specs.Right.{IsRight}
use Rattle.hc_installed.specs.Answers.{IsHit, IsMiss}
use Rattle.hc_installed.specs.Discards.{discard_lines, unbroken_sites}
use Rattle.hc_installed.specs.Installed.{AreInstalled, AreResting}
use Rattle.hc_installed.specs.Settles.{IsOutcomeAt, verdict_line}
use Rattle.hc_access.specs.Entries.{is_cached}
use Rattle.hc_compiler.specs.Jobs.{Opening, opening_at}
use Rattle.hc_commands.specs.declared.command.Command.{Command}
use Rattle.hc_commands.specs.declared.command.Command.TheVariants.{Exec}
use Rattle.hc_report.specs.declared.line.Line.{Line}
use Rattle.hc_report.specs.declared.line.Line.TheVariants.{Hit, Cache, Slow}
use Rattle.hc_session.specs.Plain.{is_access}
use Rattle.hc_session.specs.Standing.{plain_with}

-- Answers

-- what answers an access: a case of the site's plan, the inline cache, or full lookup
pub data Chosen : Type 0 where
  by_plan : ℕ → Chosen
  by_cache : Chosen
  by_lookup : Chosen

-- the first case of the plan that admits the receiver and, of a store, the value; where none does the inline cache, as long as it
-- answers for the receiver; and else full lookup
abbrev pub IsChosen : {P : Type 0} → ObjectsState P → List SiteState → ℕ → ℕ → Option Value → Chosen → Type 0
IsChosen ready sites s o value (by_plan case) = IsHit ready sites s o value case
IsChosen ready sites s o value by_cache = IsMiss ready sites s o value × (is_cached ready.heap.view.trail sites s o ≡ true)
IsChosen ready sites s o value by_lookup = IsMiss ready sites s o value × (is_cached ready.heap.view.trail sites s o ≡ false)

-- its line
abbrev pub chosen_line : ℕ → Chosen → Line
chosen_line s (by_plan case) = Hit s case
chosen_line s by_cache = Cache s
chosen_line s by_lookup = Slow s

-- Discards

-- the sites with the plans that aren't broken at this moment, and the lines of those that are, by rising site
abbrev pub sites_left : {P : Type 0} → ObjectsState P → List SiteState → List SiteState
sites_left now sites = unbroken_sites now.heap.view.shape (words_of now.heap.desk) sites

abbrev pub lines_lost : {P : Type 0} → ObjectsState P → List SiteState → List (ℕ × Line)
lines_lost now sites = discard_lines now.heap.view.shape (words_of now.heap.desk) (counted (length now.heap.desk.trail)) sites

-- what the migration of an access's receiver leaves of plans, before the site is asked. Other commands leave this to their end
abbrev pub sites_ready : {P : Type 0} → ObjectsState P → List SiteState → Command → List SiteState
sites_ready ready sites (Exec s o value) = if is_access (plain_with ready sites) (Exec s o value) then sites_left ready sites else sites
sites_ready ready sites command = sites

abbrev pub lines_ready : {P : Type 0} → ObjectsState P → List SiteState → Command → List (ℕ × Line)
lines_ready ready sites (Exec s o value) = if is_access (plain_with ready sites) (Exec s o value) then lines_lost ready sites else []
lines_ready ready sites command = []

-- how an access that is accepted is answered, once its receiver was migrated. No other command chooses
abbrev pub Chooses : {P : Type 0} → ObjectsState P → List SiteState → Command → Chosen → Type 0
Chooses ready sites (Exec s o value) chosen =
    is_access (plain_with ready sites) (Exec s o value) ≡ true → IsChosen ready (sites_ready ready sites (Exec s o value)) s o value chosen
Chooses ready sites command chosen = Unit {0}

-- the line of an access that is accepted
abbrev pub answer_lines : {P : Type 0} → ObjectsState P → List SiteState → Command → Chosen → List (ℕ × Line)
answer_lines ready sites (Exec s o value) chosen =
    if is_access (plain_with ready sites) (Exec s o value) then (counted (length ready.heap.desk.trail), chosen_line s chosen) ∷ [] else []
answer_lines ready sites command chosen = []

-- a site's plan was broken by the first of its dependencies, other than a value, that doesn't hold there, and that held before
pub record WasBroken {P : Type 0} (before : ObjectsState P) (sites : List SiteState) (there : ObjectsState P) (at site : ℕ) (dep : Dep) : Type 0 where
  pub position : at ≡ counted (length there.heap.desk.trail)
  pub broken : IsSomeAnd (plan_at sites site) (λ (plan : Plan). IsFirstBroken (HoldsButValue there.heap.view.shape (words_of there.heap.desk)) plan.deps dep)
  pub held : HoldsButValue before.heap.view.shape (words_of before.heap.desk) dep

-- Settled outcomes

-- a dependency held at some position from a start on
pub record HasHeld {P : Type 0} (now : ObjectsState P) (start : ℕ) (dep : Dep) : Type 0 where
  pub moment : ℕ
  pub since : start ≤ moment
  pub upto : moment ≤ length now.heap.desk.trail
  pub held : HoldsIn now.heap.view.shape (at moment now.heap.view.trail) dep

-- a plan that is refused is so for a dependency that held at some position from a start on
abbrev pub HadHeld : {P : Type 0} → ObjectsState P → ℕ → Verdict → Type 0
HadHeld now start (Refused dep) = HasHeld now start dep
HadHeld now start verdict = Unit {0}

-- the outcome of a job was settled: its plan is installed at the job's site, in the place of an earlier one, where each dependency
-- holds, and else refused for one that had held since the job's start; and the log gets one line
pub record HasSettled {P : Type 0} (before : ObjectsState P) (sites : List SiteState) (given : Opening) (j : ℕ) (outcome : Outcome) (verdict : Verdict) (now : ObjectsState P) (sites_now : List SiteState) (lines : List (ℕ × Line)) : Type 0 where
  pub verdict_is : IsOutcomeAt now outcome verdict
  pub sites_are : sites_now ≡ sites_after sites given.site outcome verdict
  pub held : HadHeld now given.start verdict
  pub lines_are : lines ≡ (counted (length before.heap.desk.trail), verdict_line j given.site verdict) ∷ []

-- Installed plans

-- an installed plan: each dependency holds, and no map that it names is deprecated
pub record IsUpheld {P : Type 0} (now : ObjectsState P) (plan : Plan) : Type 0 where
  pub hold : AllByRecursion (HoldsIn now.heap.view.shape now.heap.view.trail) plan.deps
  pub live : AllByRecursion (NamesLive now.heap.view.trail) plan.cases

-- each site's plan is upheld, and answers as full lookup
abbrev pub AreUpheld : {P : Type 0} → ObjectsState P → List SiteState → Type 0
AreUpheld now sites = AllByRecursion (λ (state : SiteState). IfSome state.plan (λ (plan : Plan). IsUpheld now plan × IsRight now.heap.view.trail now.kept plan)) sites

-- Between commands

-- a job made no read yet, or all of its reads; these are words of one position, not before its start, at which the objects were at
-- rest
abbrev pub HasRested : {P : Type 0} → ObjectsState P → OpenJob → Type 0
HasRested now x =
    (reads_made x.reader ≡ [])
    ⊎ ((is_done (asks x.job) ≡ true) × AreResting now.heap.view now.heap.desk (beginning x.reader) (reads_made x.reader))

-- each open job is one of a site that is there, and does what that does
abbrev pub AreSitesOf : List SiteState → List OpenJob → Type 0
AreSitesOf sites jobs = (j : ℕ) (x : OpenJob) → open_at jobs j ≡ Some x → IsSomeAnd (slice_get sites x.job.site) (λ (state : SiteState). state.site ≡ x.job.what)

-- each site's plan is borne by the words, and each open job read at rest
pub record ArePlanned {P : Type 0} (now : ObjectsState P) (sites : List SiteState) (jobs : List OpenJob) : Type 0 where
  pub installed : AreInstalled now.heap.view.shape now.heap.view.trail sites
  pub resting : (j : ℕ) (x : OpenJob) → open_at jobs j ≡ Some x → HasRested now x
