-- How an access is answered, step by step: its site's plan is asked, its receiver migrated, and the plan asked once more; and then it
-- is the inline cache or full lookup.
use Rattle.std.specs.Prelude.{◌≡◌, ◌⊎◌, ℕ, Bool, true, false, IsSomeAnd, List, [], ◌∷◌, ◌++◌, length, slice_get, Option, Some, None}
use Rattle.hc_board.specs.States.{counted}
use Rattle.hc_board.specs.Trail.{Access}
use Rattle.hc_value.specs.declared.reply.Reply.{Reply}
use Rattle.hc_value.specs.declared.value.Value.{Value}
use Rattle.hc_heap.specs.States.{OnlyLoads}
use Rattle.hc_modes.specs.Admitting.{IsHonest}
use Rattle.hc_modes.specs.Rest.{AreCalm}
use Rattle.hc_modes.specs.State.{IsLive, ObjectsState}
use Rattle.hc_objects.specs.Came.{Came, MadeLive}
use Rattle.hc_objects.specs.Onward.{HasGoneOn}
use Rattle.hc_ops.specs.Act.{Act}
use Rattle.hc_plan.specs.declared.case.Op.TheVariants.{Load}
use Rattle.hc_plan.specs.declared.case.Site.{Site}
use Rattle.hc_sites.specs.declared.state.SiteState.{SiteState}
use Rattle.hc_table.specs.Changes.{Nothing}
use Rattle.hc_access.specs.Accesses.{AskedCell, events_at, with_events}
use Rattle.hc_access.specs.Entries.{AreGood, is_cached}
use Rattle.hc_commands.specs.declared.command.Command.TheVariants.{Exec}
use Rattle.hc_installed.specs.Answers.{IsGiven, IsHit, IsMiss}
use Rattle.hc_installed.specs.Installed.{AreInstalled}
use Rattle.hc_report.specs.declared.line.Line.{Line}
use Rattle.hc_session.specs.Jobs.{AreSeen}
use Rattle.hc_session.specs.Plans.{Chosen, by_plan, IsChosen, chosen_line, lines_lost, sites_left}
use Rattle.hc_session.specs.Serving.{way_line}
use Rattle.hc_session.specs.State.{Became, IsCheapBy, sites_at}

-- what the inline caches of sites say is true, the maps that sites have seen are written, and their plans are borne; no map is unstable
-- that a prototype has, and what each field says of values is true
pub record Agree {P : Type 0} (objects : ObjectsState P) (sites : List SiteState) : Type 0 where
  pub good : AreGood objects sites
  pub seen : AreSeen objects.heap.view.trail sites
  pub calm : AreCalm objects.heap.view.trail
  pub honest : IsHonest objects.heap.view.trail
  pub installed : AreInstalled objects.heap.view.shape objects.heap.view.trail sites

-- where nothing was stored, so many loads were made at most
abbrev pub IsQuick : {P : Type 0} → ℕ → ObjectsState P → ObjectsState P → Type 0
IsQuick n a b = b.heap.desk.trail ≡ a.heap.desk.trail → OnlyLoads n a.heap.desk b.heap.desk

-- the receiver is live, migrated where it wasn't, and the plans that this broke were discarded
pub record IsReady {P : Type 0} (went : P → List Access → List Access → P → Type 0) (a : ObjectsState P) (sites : List SiteState) (log : List (ℕ × Line)) (o : ℕ) (ready : ObjectsState P) (sites_now : List SiteState) (log_now : List (ℕ × Line)) : Type 0 where
  pub made : MadeLive went a o ready
  pub sites_are : sites_now ≡ sites_left ready sites
  pub lines_are : log_now ≡ log ++ lines_lost ready sites

-- the site's plan answered an access by the first case that admits: the reply and what became of objects are those of the ordinary
-- operation, and the log has the line
pub record HasHit {P : Type 0} (went : P → List Access → List Access → P → Type 0) (a : ObjectsState P) (sites : List SiteState) (log : List (ℕ × Line)) (s o : ℕ) (value : Option Value) (reply : Reply) (b : ObjectsState P) (log_now : List (ℕ × Line)) : Type 0 where
  pub number : ℕ
  pub is_hit : IsHit a sites s o value number
  pub given : IsSomeAnd (slice_get sites s) (λ (state : SiteState). IsGiven went a o state.site.name value reply b)
  pub lines_are : log_now ≡ log ++ (counted (length a.heap.desk.trail), chosen_line s (by_plan number)) ∷ []

-- so it did once the receiver was ready
pub record HasAnswered {P : Type 0} (went : P → List Access → List Access → P → Type 0) (a : ObjectsState P) (sites : List SiteState) (log : List (ℕ × Line)) (s o : ℕ) (value : Option Value) (reply : Reply) (b : ObjectsState P) (sites_now : List SiteState) (log_now : List (ℕ × Line)) : Type 0 where
  pub ready : ObjectsState P
  pub log_ready : List (ℕ × Line)
  pub is_ready : IsReady went a sites log o ready sites_now log_ready
  pub hit : HasHit went ready sites_now log_ready s o value reply b log_now
  pub installed : AreInstalled ready.heap.view.shape ready.heap.view.trail sites_now
  pub goes : HasGoneOn ready b

-- or it had no answer, then either
pub record HasMissed {P : Type 0} (went : P → List Access → List Access → P → Type 0) (a : ObjectsState P) (sites : List SiteState) (log : List (ℕ × Line)) (s o : ℕ) (value : Option Value) (ready : ObjectsState P) (sites_now : List SiteState) (log_now : List (ℕ × Line)) : Type 0 where
  pub is_ready : IsReady went a sites log o ready sites_now log_now
  pub miss : IsMiss ready sites_now s o value
  pub agree : Agree ready sites_now
  pub live : IsLive ready.heap.view.trail o

-- an access that no plan answered was so by the inline cache or full lookup
pub record HasPassed {P : Type 0} (went : P → List Access → List Access → P → Type 0) (a : ObjectsState P) (sites : List SiteState) (log : List (ℕ × Line)) (s o : ℕ) (site : Site) (act : Act) (reply : Reply) (b : ObjectsState P) (sites_now : List SiteState) (log_now : List (ℕ × Line)) : Type 0 where
  pub by_cache : Bool
  pub by_is : by_cache ≡ is_cached a.heap.view.trail sites s o
  pub reply_is : reply ≡ act.reply
  pub became : Came went a act.did b ⊎ ((true ≡ true) × (act.did ≡ Nothing) × AskedCell went a b)
  pub sites_are : sites_now ≡ with_events sites s (events_at a sites s o site.op site.name)
  pub lines_are : log_now ≡ log ++ (counted (length a.heap.desk.trail), way_line by_cache s) ∷ []
  pub installed : AreInstalled a.heap.view.shape a.heap.view.trail sites_now
  pub goes : HasGoneOn a b
  pub quick : site.op ≡ Load → by_cache ≡ true → OnlyLoads 16 a.heap.desk b.heap.desk

-- an access that is accepted, up to the discards of its command's end: its receiver was made ready, and then it was answered so, as the
-- ordinary operation does
pub record HasAccessed {P : Type 0} (went : P → List Access → List Access → P → Type 0) (a : ObjectsState P) (sites : List SiteState) (log : List (ℕ × Line)) (s o : ℕ) (site : Site) (value : Option Value) (act : Act) (reply : Reply) (b : ObjectsState P) (sites_now : List SiteState) (log_now : List (ℕ × Line)) : Type 0 where
  pub ready : ObjectsState P
  pub sites_ready : List SiteState
  pub log_ready : List (ℕ × Line)
  pub is_ready : IsReady went a sites log o ready sites_ready log_ready
  pub chosen : Chosen
  pub is_chosen : IsChosen ready sites_ready s o value chosen
  pub reply_is : reply ≡ act.reply
  pub became : Became went true ready (Exec s o value) act.did b
  pub sites_are : sites_now ≡ sites_at ready sites_ready s o (Some site) chosen
  pub lines_are : log_now ≡ log_ready ++ (counted (length ready.heap.desk.trail), chosen_line s chosen) ∷ []
  pub installed : AreInstalled ready.heap.view.shape ready.heap.view.trail sites_now
  pub goes : HasGoneOn ready b
  pub cheap : value ≡ None → IsCheapBy a chosen b
