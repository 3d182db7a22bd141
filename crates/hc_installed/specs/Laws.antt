-- What holds of installed plans, each law the contract of a function of `laws.rt`.
use Rattle.std.specs.Prelude.{◌≡◌, ◌↔◌, ℕ, ◌≤◌, ⊤, Bool, IsTrue, MatchOption, Option, IfSome, IsSomeAnd, List, [], ◌∷◌, ◌++◌, length, slice_get}
use Rattle.std.specs.List.{AllByRecursion}
use Rattle.hc_board.specs.Fits.{AreOf}
use Rattle.hc_board.specs.Parts.{EntryFits, MetEntry, reads_of}
use Rattle.hc_board.specs.States.{WriterState, words_of}
use Rattle.hc_board.specs.Trail.{Access}
use Rattle.hc_layout.specs.declared.shape.Shape.{Shape}
use Rattle.hc_heap.specs.Kept.{GoesOn, at}
use Rattle.hc_heap.specs.States.{Goes, IsDesk, IsHeap, View}
use Rattle.hc_heap.specs.Writes.{Trail}
use Rattle.hc_value.specs.declared.value.Value.{Value}
use Rattle.hc_facts.specs.Constants.{ConstantsStay}
use Rattle.hc_modes.specs.Came.{IsStill}
use Rattle.hc_modes.specs.State.{IsLive, ObjectsState}
use Rattle.hc_plan.specs.declared.case.Site.{Site}
use Rattle.hc_plan.specs.declared.deps.Dep.{Dep}
use Rattle.hc_plan.specs.declared.plan.Plan.{Plan}
use Rattle.hc_question.specs.Told.{IsTold as ReadsTell}
use Rattle.hc_question.specs.declared.outcome.Outcome.{Outcome}
use Rattle.hc_sites.specs.Events.{Event, noted, forgotten, filled, installed, discarded}
use Rattle.hc_sites.specs.State.{new_site, with_event}
use Rattle.hc_sites.specs.declared.state.SiteState.{SiteState}
use Rattle.hc_deps.specs.Holds.{HoldsButValue}
use Rattle.hc_deps.specs.Trails.{HoldsIn}
use Rattle.hc_deps.specs.Verdicts.{IsFirstBroken, IsUnbroken, IsVerdict, sites_after}
use Rattle.hc_deps.specs.declared.verdict.Verdict.{Verdict}
use Rattle.hc_deps.specs.declared.verdict.Verdict.TheVariants.{Refused}
use Rattle.hc_soundness.specs.Breaks.{breaks}
use Rattle.hc_soundness.specs.Meaning.{Dictionary}
use Rattle.hc_soundness.specs.Rest.{IsRest}
use Rattle.hc_soundness.specs.Right.{IsRight}
use Rattle.hc_installed.specs.Answers.{IsHit, IsMiss}
use Rattle.hc_installed.specs.Installed.{AreInstalled, AreResting}
use Rattle.hc_installed.specs.Discards.{broken_by, discard_lines, holds_still, plan_count, unbroken_sites}
use Rattle.hc_installed.specs.Settles.{IsNotRefused}

-- Discards

-- what is tested of a dependency is that it holds, or is on a value
abbrev pub TestsAreMeant : Type 0
TestsAreMeant = (s : Shape) (words : List ℕ) (dep : Dep) → IsTrue (holds_still s words dep) ↔ HoldsButValue s words dep

-- what breaks a site's plan is the first of its dependencies, other than a value, that doesn't hold; where nothing does, each holds
abbrev pub BreaksAreFirst : Type 0
BreaksAreFirst = (s : Shape) (words : List ℕ) (state : SiteState)
    → MatchOption (broken_by s words state) (IfSome state.plan (IsUnbroken s words)) (λ (dep : Dep). IsSomeAnd state.plan (λ (plan : Plan). IsFirstBroken (HoldsButValue s words) plan.deps dep))

-- at a later rest, where constants stayed, the plans that aren't broken are those of sites, and borne
abbrev pub PlansStayInstalled : Type 0
PlansStayInstalled = (old : Trail) (v : View) (d : WriterState) (kept : List (Option Dictionary)) (sites : List SiteState) → IsRest v kept → IsDesk v d → GoesOn v.shape old v.trail → ConstantsStay old v.trail
    → AreInstalled v.shape old sites → AreInstalled v.shape v.trail (unbroken_sites v.shape (words_of d) sites)

-- no plan of these sites is broken: they are all left, and no line is put
pub record AreUnbroken (s : Shape) (words : List ℕ) (sites : List SiteState) : Type 0 where
  pub left : unbroken_sites s words sites ≡ sites
  pub none : (position : ℕ) → discard_lines s words position sites ≡ []

-- where no more writes were to bits and details, no plan is broken; so it is where there was none at all
abbrev pub QuietBreaksNoPlan : Type 0
QuietBreaksNoPlan = (old : Trail) (v : View) (d : WriterState) (sites : List SiteState) → IsHeap v → IsDesk v d → GoesOn v.shape old v.trail → breaks v.trail ≡ breaks old
    → AreInstalled v.shape old sites → AreUnbroken v.shape (words_of d) sites

-- after broken plans are discarded none is left
abbrev pub UnbrokenAreLeft : Type 0
UnbrokenAreLeft = (s : Shape) (words : List ℕ) (sites : List SiteState) → AreUnbroken s words (unbroken_sites s words sites)

-- no more plans than sites
abbrev pub PlansAreFew : Type 0
PlansAreFew = (sites : List SiteState) → plan_count sites ≤ length sites

-- Outcomes

-- a job's outcome is told by the reads of its entry, of what its site does
pub record IsOutcomeOf (v : View) (d : WriterState) (site : ℕ) (what : Site) (reads : List Access) (outcome : Outcome) : Type 0 where
  pub maps : List ℕ
  pub mega : Bool
  pub told : ReadsTell v.shape site what maps mega reads outcome

-- at rest, an outcome that the reads of an entry told, whenever they fit, leaves the plans of sites borne
abbrev pub OutcomesStayInstalled : Type 0
OutcomesStayInstalled = (v : View) (d : WriterState) (kept : List (Option Dictionary)) (sites : List SiteState) (site : ℕ) (what : Site) (entry : MetEntry) (outcome : Outcome) (verdict : Verdict) → IsRest v kept → IsDesk v d
    → EntryFits d.board.words d.trail entry → IsOutcomeOf v d site what (reads_of entry) outcome → IsSomeAnd (slice_get sites site) (λ (state : SiteState). state.site ≡ what)
    → IsVerdict v.shape (words_of d) outcome verdict → AreInstalled v.shape v.trail sites → AreInstalled v.shape v.trail (sites_after sites site outcome verdict)

-- at rest, an outcome that reads of this very position told isn't refused
abbrev pub PromptIsNotRefused : Type 0
PromptIsNotRefused = (v : View) (d : WriterState) (kept : List (Option Dictionary)) (site : ℕ) (what : Site) (reads : List Access) (outcome : Outcome) (verdict : Verdict) → IsRest v kept → IsDesk v d
    → AreOf d.board.words d.trail (length d.trail) reads → IsOutcomeOf v d site what reads outcome → IsVerdict v.shape (words_of d) outcome verdict → IsNotRefused verdict

-- a dependency for which a plan is refused held at the position of the job's reads, at which the objects were at rest
abbrev pub RefusedHadHeld : Type 0
RefusedHadHeld = (v : View) (d : WriterState) (start site : ℕ) (what : Site) (reads : List Access) (outcome : Outcome) (dep : Dep) → IsHeap v → IsDesk v d
    → (resting : AreResting v d start reads) → IsOutcomeOf v d site what reads outcome → IsVerdict v.shape (words_of d) outcome (Refused dep) → HoldsIn v.shape (at resting.position v.trail) dep

-- Rest

-- at rest, reads of this very position are those of one at which the objects were at rest
abbrev pub RestIsNow : Type 0
RestIsNow = (v : View) (d : WriterState) (kept : List (Option Dictionary)) (start : ℕ) (reads : List Access) → IsRest v kept → IsDesk v d → start ≤ length d.trail
    → AreOf d.board.words d.trail (length d.trail) reads → AreResting v d start reads

-- whatever is stored later on, they are so still
abbrev pub RestingStays : Type 0
RestingStays = (v w : View) (d e : WriterState) (start : ℕ) (reads : List Access) → IsDesk v d → IsDesk w e → w.shape ≡ v.shape → Goes d e → AreResting v d start reads → AreResting w e start reads

-- Sites

-- at an event no plan is installed
abbrev pub InstallsNone : Event → Type 0
InstallsNone (installed plan) = ⊥
InstallsNone (noted map) = ⊤
InstallsNone (forgotten map) = ⊤
InstallsNone (filled entry) = ⊤
InstallsNone discarded = ⊤

-- the plans of sites are borne still after such an event
abbrev pub OtherEventsKeepPlans : Type 0
OtherEventsKeepPlans = (s : Shape) (t : Trail) (sites : List SiteState) (site : ℕ) (event : Event) → InstallsNone event → AreInstalled s t sites → AreInstalled s t (with_event sites site event)

-- and no more sites have one
abbrev pub OtherEventsAddNoPlan : Type 0
OtherEventsAddNoPlan = (sites : List SiteState) (site : ℕ) (event : Event) → InstallsNone event → plan_count (with_event sites site event) ≤ plan_count sites

-- and with one site more, at which nothing happened yet
abbrev pub NewSitesHaveNoPlan : Type 0
NewSitesHaveNoPlan = (s : Shape) (t : Trail) (sites : List SiteState) (what : Site) → AreInstalled s t sites → AreInstalled s t (sites ++ new_site what ∷ [])

-- no more sites have a plan then
abbrev pub NewSitesCountNone : Type 0
NewSitesCountNone = (sites : List SiteState) (what : Site) → plan_count (sites ++ new_site what ∷ []) ≡ plan_count sites

-- at rest, each installed plan is right
abbrev pub InstalledAreRight : Type 0
InstalledAreRight = (v : View) (kept : List (Option Dictionary)) (sites : List SiteState) → IsRest v kept → AreInstalled v.shape v.trail sites
    → AllByRecursion (λ (state : SiteState). IfSome state.plan (IsRight v.trail kept)) sites

-- Answers

-- at rest, a site's plan answers for no receiver whose map is deprecated
abbrev pub HitsAreLive : Type 0 → Type 0
HitsAreLive P = (a : ObjectsState P) (sites : List SiteState) (s o number : ℕ) (value : Option Value) → IsRest a.heap.view a.kept → IsDesk a.heap.view a.heap.desk
    → AreInstalled a.heap.view.shape a.heap.view.trail sites → IsHit a sites s o value number → IsLive a.heap.view.trail o

-- after loads the same case admits
abbrev pub HitsStay : Type 0 → Type 0
HitsStay P = (a b : ObjectsState P) (sites : List SiteState) (s o number : ℕ) (value : Option Value) → IsStill a b → IsHit a sites s o value number → IsHit b sites s o value number

-- or none does
abbrev pub MissesStay : Type 0 → Type 0
MissesStay P = (a b : ObjectsState P) (sites : List SiteState) (s o : ℕ) (value : Option Value) → IsStill a b → IsMiss a sites s o value → IsMiss b sites s o value
