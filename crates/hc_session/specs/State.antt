-- The objects that commands change, how they are kept, and what each command does to them.
use Rattle.std.specs.Prelude.{◌≡◌, ◌≢◌, ◌↔◌, ◌⊎◌, ⊤, ℕ, Bool, true, false, if◌then◌else◌, IsTrue, List, [], ◌∷◌, ◌++◌, Option, Some, None}
use Rattle.hc_board.specs.Trail.{Access}
use Rattle.hc_value.specs.declared.reply.Reply.{Reply}
use Rattle.hc_value.specs.declared.reply.Reply.TheVariants.{Flag, Shape as HowKept}
use Rattle.hc_table.specs.Changes.{Did, Nothing, Moved}
use Rattle.hc_heap.specs.States.{IsDesk, OnlyLoads}
use Rattle.hc_modes.specs.Admitting.{IsHonest}
use Rattle.hc_cells.specs.Cells.{AreCells}
use Rattle.hc_modes.specs.Meaning.{cause_in}
use Rattle.hc_modes.specs.Modes.{AreAlike, HaveOneWord, mode_of}
use Rattle.hc_modes.specs.Rest.{AreCalm}
use Rattle.hc_modes.specs.State.{ObjectsState, IsObjects}
use Rattle.hc_objects.specs.Came.{Came}
use Rattle.hc_commands.specs.declared.command.Command.{Command}
use Rattle.hc_commands.specs.declared.command.Command.TheVariants.{Keys, Shape, Same, Declare, Exec, Compile, Step, Finish}
use Rattle.hc_plan.specs.declared.case.Site.{Site}
use Rattle.hc_access.specs.Accesses.{AskedCell, events_at, note_events, site_at, with_events}
use Rattle.hc_sites.specs.State.{new_site}
use Rattle.hc_sites.specs.declared.state.SiteState.{SiteState}
use Rattle.hc_session.specs.Jobs.{HaveMet, Works}
use Rattle.hc_session.specs.Logging.{Logs, lines_since, log_text, mark_of}
use Rattle.hc_session.specs.Plain.{Answer, AnswersPlainly, IsServed, act_in, is_accepted_job, is_access}
use Rattle.hc_report.specs.declared.line.Line.{Line}
use Rattle.hc_session.specs.Plans.{AreUpheld, Chooses, Chosen, by_plan, by_cache, by_lookup, lines_ready, sites_left}
use Rattle.hc_session.specs.Standing.{Standing, plain_of, plain_with}
use Rattle.hc_session.specs.Tables.{did_in}
use Rattle.hc_session.specs.Using.{AreReadied, MovesInWant, is_accepted, uses_if}

-- words and dictionaries are sound, and stand for the property tables; cells are sound; the words are those that the board's stores
-- say; no map is unstable that a prototype has; and what each field says of values is true of all objects
pub record Stands {P : Type 0} (objects : ObjectsState P) : Type 0 where
  pub sound : IsObjects objects.heap.view objects.kept objects.of_null
  pub cells : AreCells objects.heap.view.trail objects.heap.view.used
  pub desk : IsDesk objects.heap.view objects.heap.desk
  pub calm : AreCalm objects.heap.view.trail
  pub honest : IsHonest objects.heap.view.trail

-- two objects are fast and have one map: they are one, or are alike; so their map words say
pub record HaveOneMap {P : Type 0} (objects : ObjectsState P) (a b : ℕ) (same : Bool) : Type 0 where
  pub itself : a ≡ b → IsTrue same ↔ (cause_in objects.kept a ≡ None)
  pub others : a ≢ b → IsTrue same ↔ AreAlike objects.heap.view.trail objects.kept a b
  pub words : IsTrue same ↔ HaveOneWord objects.heap.view.trail a b

-- a reply that says how objects are kept is true of them
abbrev pub IsTrueReply : {P : Type 0} → ObjectsState P → Command → Reply → Type 0
IsTrueReply objects (Shape o) (HowKept mode) = mode ≡ mode_of objects.heap.view.trail objects.kept o
IsTrueReply objects (Same a b) (Flag same) = HaveOneMap objects a b same
IsTrueReply objects command reply = Unit {0}

-- the sites after an access that is accepted: nothing happens at one whose plan answers
abbrev pub sites_at : {P : Type 0} → ObjectsState P → List SiteState → ℕ → ℕ → Option Site → Chosen → List SiteState
sites_at objects sites s o site (by_plan case) = sites
sites_at objects sites s o None chosen = sites
sites_at objects sites s o (Some site) chosen = with_events sites s (events_at objects sites s o site.op site.name)

-- the sites after a command, but for what it breaks: nothing happened yet at one that is declared, and an access notes its receiver's
-- map and may fill the inline cache, unless the site's plan answers
abbrev pub sites_by : {P : Type 0} → ObjectsState P → List SiteState → Command → Chosen → List SiteState
sites_by ready sites (Declare op name) chosen = sites ++ new_site (record { op = op; name = name }) ∷ []
sites_by ready sites (Exec s o value) chosen =
    if is_access (plain_with ready sites) (Exec s o value) then sites_at ready (sites_left ready sites) s o (site_at sites s) chosen else sites
sites_by ready sites command chosen = sites

-- and those whose plans it broke lose them at its end. What commands of jobs do to sites is said with what they do to jobs
abbrev pub AreSitesAfter : {P : Type 0} → ObjectsState P → List SiteState → Command → Chosen → ObjectsState P → List SiteState → Type 0
AreSitesAfter ready sites (Compile s) chosen now sites_now = sites_now ≡ sites
AreSitesAfter ready sites (Step j reads) chosen now sites_now = sites_now ≡ sites
AreSitesAfter ready sites (Finish j) chosen now sites_now = Unit {0}
AreSitesAfter ready sites command chosen now sites_now = sites_now ≡ sites_left now (sites_by ready sites command chosen)

-- and after one that lacked memory then: plans that its receiver's migration broke were discarded, and it has noted the receiver's map
abbrev pub sites_in_want : {P : Type 0} → ObjectsState P → List SiteState → Command → List SiteState
sites_in_want ready sites (Exec s o value) =
    if is_access (plain_with ready sites) (Exec s o value) then with_events (sites_left ready sites) s (note_events ready (sites_left ready sites) s o) else sites
sites_in_want ready sites command = sites

-- what became of objects, once those that a command uses were migrated: the one change that is made, if any; or an access that is
-- accepted and makes none asked for a cell, as no other command does; or a command on an open job had its reader met
abbrev pub Became : {P : Type 0} → (P → List Access → List Access → P → Type 0) → Bool → ObjectsState P → Command → Did → ObjectsState P → Type 0
Became went accepted a (Exec s o value) did b = Came went a did b ⊎ ((accepted ≡ true) × (did ≡ Nothing) × AskedCell went a b)
Became went accepted a (Step j reads) did b = Came went a did b ⊎ ((accepted ≡ true) × HaveMet a b)
Became went accepted a (Finish j) did b = Came went a did b ⊎ ((accepted ≡ true) × HaveMet a b)
Became went accepted a command did b = Came went a did b

-- the objects that a command uses were migrated first, none where it is refused; and then it did what it does
pub record Used {P : Type 0} (went : P → List Access → List Access → P → Type 0) (a : ObjectsState P) (accepted : Bool) (command : Command) (did : Did) (b : ObjectsState P) : Type 0 where
  pub ready : ObjectsState P
  pub readied : AreReadied went a (uses_if accepted command) ready
  pub done : Became went accepted ready command did b

-- an access that reads is a few loads where a plan answers, or the inline cache, and nothing is stored: its receiver's map was live
abbrev pub loads_by : Chosen → ℕ
loads_by (by_plan case) = 4
loads_by chosen = 24

abbrev pub IsCheapBy : {P : Type 0} → ObjectsState P → Chosen → ObjectsState P → Type 0
IsCheapBy old by_lookup new = Unit {0}
IsCheapBy old chosen new = new.heap.desk.trail ≡ old.heap.desk.trail → OnlyLoads (loads_by chosen) old.heap.desk new.heap.desk

abbrev pub IsCheap : {P : Type 0} → ObjectsState P → ObjectsState P → List SiteState → Command → Chosen → ObjectsState P → Type 0
IsCheap old ready sites (Exec s o None) chosen new = is_access (plain_with ready sites) (Exec s o None) ≡ true → IsCheapBy old chosen new
IsCheap old ready sites command chosen new = Unit {0}

-- what a command does that is answered: it answers as the tables do, and truly of how objects are kept; the objects that it uses were
-- migrated, and then what became of words, modes, needs and prototypes is what becomes of the one change; an access is answered by
-- its site's plan, or the inline cache, or full lookup; the sites are these, and no plan is left that was broken: each answers as full
-- lookup; jobs are started, make their reads and end so; the log goes on; and what plans and inline caches answer is cheap
pub record Does {P : Type 0} (went : P → List Access → List Access → P → Type 0) (old : Standing P) (command : Command) (answer : Answer) (new : Standing P) : Type 0 where
  pub served : IsServed command
  pub answers : AnswersPlainly (plain_of old) command answer (plain_of new)
  pub kept : IsTrueReply new.objects command answer.reply
  pub used : Used went old.objects (is_accepted (plain_of old) command) command (did_in (act_in (plain_of old) command)) new.objects
  pub stands : Stands new.objects
  pub chosen : Chosen
  pub chooses : Chooses used.ready old.sites command chosen
  pub sites : AreSitesAfter used.ready old.sites command chosen new.objects new.sites
  pub plans : AreUpheld new.objects new.sites
  pub jobs : Works (is_accepted_job (plain_of old) command) old.objects old.sites old.compiler command new.objects new.sites new.compiler (lines_since old new)
  pub cheap : IsCheap old.objects used.ready old.sites command chosen new.objects
  pub logs : Logs old used.ready command new
  pub log_is : answer.log ≡ log_text (lines_since old new)
  pub going : new.lacking ≡ false

-- the answer that leads from one state of a session to a later one
abbrev pub answer_since : {P : Type 0} → Standing P → Reply → Standing P → Answer
answer_since old reply new = record { log = log_text (lines_since old new); reply = reply }

-- what a command did to tables that lacked memory: a list of names only reads
abbrev pub did_in_want : Command → Did
did_in_want (Keys o) = Nothing
did_in_want command = Moved

-- the sites and the log after a command that lacked memory: as they were; or an access had its receiver migrated, plans were discarded
-- that this broke, with their lines, and it has noted the receiver's map
pub record HasNoted {P : Type 0} (ready : ObjectsState P) (sites : List SiteState) (log : List (ℕ × Line)) (command : Command) (sites_now : List SiteState) (log_now : List (ℕ × Line)) : Type 0 where
  pub sites_are : sites_now ≡ sites_in_want ready sites command
  pub lines_are : log_now ≡ log ++ lines_ready ready sites command

abbrev pub NotedInWant : {P : Type 0} → (P → List Access → List Access → P → Type 0) → ObjectsState P → List SiteState → List (ℕ × Line) → Command → List SiteState → List (ℕ × Line) → Type 0
NotedInWant {P} went a sites log command sites_now log_now =
    ((sites_now ≡ sites) × (log_now ≡ log))
    ⊎ ((ready : ObjectsState P) × AreReadied went a (uses_if (is_accepted (plain_with a sites) command) command) ready × HasNoted ready sites log command sites_now log_now)

-- nothing changed
pub record IsAsBefore {P : Type 0} (old new : Standing P) : Type 0 where
  pub objects : new.objects ≡ old.objects
  pub sites : new.sites ≡ old.sites
  pub compiler : new.compiler ≡ old.compiler
  pub log : new.log ≡ old.log
  pub marks : new.marks ≡ old.marks

-- a command got its mark, and then lacked memory: some of the objects that it uses were migrated, objects moved at most, and an access
-- may have discarded plans and noted a map. Of plans nothing else is said, and no command follows
pub record HasMark {P : Type 0} (went : P → List Access → List Access → P → Type 0) (old : Standing P) (command : Command) (new : Standing P) : Type 0 where
  pub moves : MovesInWant went old.objects (uses_if (is_accepted (plain_of old) command) command) new.objects
  pub noted : NotedInWant went old.objects old.sites old.log command new.sites new.log
  pub compiler : new.compiler ≡ old.compiler
  pub mark : new.marks ≡ old.marks ++ mark_of old ∷ []

-- what a command leaves that lacked memory: there was none for its mark and its lines of the log, or it has its mark
abbrev pub Wants : {P : Type 0} → (P → List Access → List Access → P → Type 0) → Standing P → Command → Standing P → Type 0
Wants went old command new = IsAsBefore old new ⊎ HasMark went old command new

-- a pace of which nothing is asked
abbrev pub any_pace : {P : Type 0} → P → List Access → List Access → P → Type 0
any_pace old trail trail_now new = ⊤
