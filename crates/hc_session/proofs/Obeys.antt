-- What a command does to objects.
use Rattle.std.proofs.Common.{◌≡◌, ℕ, Bool, true, false, List, [], ◌∷◌, ◌++◌, length, map, drop, refl, sym, ap, ◌∙◌, subst, arith, Ok, Err, Option, Some, None, append-nil}
use Rattle.std.specs.Prelude.{◌⊎◌, IfOk, OnOk, OnErr, Result, if◌then◌else◌}
use Rattle.std.specs.List.{AllByRecursion}
use Rattle.std.proofs.lemmas.List.{drop_at, length-map}
use Rattle.hc_board.specs.States.{counted}
use Rattle.hc_board.specs.Trail.{Access}
use Rattle.hc_value.specs.declared.reply.Reply.{Reply}
use Rattle.hc_value.specs.declared.reply.Reply.TheVariants.{Flag, NoObject, Shape as HowKept, Site as SiteReply}
use Rattle.hc_value.specs.declared.value.Value.{Value}
use Rattle.hc_value.specs.declared.memory.Memory.{Memory}
use Rattle.hc_value.specs.declared.word.TheConstants.{TEXT_LIMIT}
use Rattle.hc_compiler.specs.Jobs.{Compiling}
use Rattle.hc_access.specs.Entries.{is_cached}
use Rattle.hc_plan.specs.declared.case.Op.{Op}
use Rattle.hc_sites.specs.State.{new_site}
use Rattle.hc_sites.specs.declared.state.SiteState.{SiteState}
use Rattle.hc_table.specs.Changes.{Did, Nothing, after}
use Rattle.hc_table.specs.Kept.{Kept as Tables, with_world}
use Rattle.hc_ops.specs.Act.{Act}
use Rattle.hc_heap.specs.Writes.{Trail}
use Rattle.hc_modes.specs.State.{ObjectsState}
use Rattle.hc_modes.specs.Admitting.{ConstantsStay}
use Rattle.hc_objects.specs.Came.{IsStill}
use Rattle.hc_objects.specs.Laws.{came-after, once-moves}
use Rattle.hc_session.specs.Jobs.{Works}
use Rattle.hc_commands.specs.declared.command.Command.{Command}
use Rattle.hc_commands.specs.declared.command.Command.TheVariants.{Shape, Same, Declare, Exec, Compile, Step, Finish}
use Rattle.hc_report.specs.Lines.{log_line}
use Rattle.hc_report.specs.declared.line.Line.{Line}
use Rattle.hc_report.specs.declared.line.Line.TheVariants.{Cache, Slow}
use Rattle.hc_report.specs.declared.marks.Mark.{Mark}
use Rattle.hc_session.specs.Logging.{IsLegalLine, answers_in, lines_since, log_text, mark_of}
use Rattle.hc_session.specs.Plain.{AreJobsAfter, IsLogText, IsServed, IsTextIf, PlainJobs, PlainState, act_in, is_accepted_job, is_access, is_beside, is_of_jobs, none_started, sites_after}
use Rattle.hc_session.specs.Plans.{Chooses, Chosen, by_lookup, lines_lost, sites_left}
use Rattle.hc_session.specs.Serving.{AreNamedSites, Serves, ServesBeside, lines_of, way_line}
use Rattle.hc_session.specs.Standing.{Standing, jobs_of, plain_of, plain_with, tables_of}
use Rattle.hc_session.specs.State.{Became, Does, IsCheap, IsTrueReply, NotedInWant, Stands, Used, Wants, answer_since, sites_by}
use Rattle.hc_session.specs.Tables.{AnswersOnTables, HasNumbers, IsOnTables, IsReplyOf, act_of, all_there, did_by, did_in, says}
use Rattle.hc_session.specs.Using.{AreReadied, MovesInWant, is_accepted, uses_if}
use Rattle.hc_session.proofs.Declares.{sites-left-seen, sites-named, want-named, want-seen}
use Rattle.hc_session.proofs.Readied.{readied-tables}
use mathlib.Core.Logic.{inl, inr}

-- a served command that asks nothing of how objects are kept, nor of sites
pub on_tables : (command : Command) → IsServed command → is_beside command ≡ false → ((o : ℕ) → command ≡ Shape o → ⊥) → ((a b : ℕ) → command ≡ Same a b → ⊥) → IsOnTables command
on_tables (Shape o) served objects no_shape no_same = absurd (no_shape o refl)
on_tables (Same a b) served objects no_shape no_same = absurd (no_same a b refl)
on_tables (Declare op name) served objects no_shape no_same = absurd (cc)
on_tables (Exec s o value) served objects no_shape no_same = absurd (cc)
on_tables (Compile s) served objects no_shape no_same = absurd (cc)
on_tables (Step j reads) served objects no_shape no_same = absurd (cc)
on_tables (Finish j) served objects no_shape no_same = absurd (cc)
on_tables command served objects no_shape no_same = served

-- a command that neither declares a site nor is an access, and isn't one of jobs
pub of_objects : (command : Command) → ((op : Op) (name : ℕ) → command ≡ Declare op name → ⊥) → ((s o : ℕ) (value : Option Value) → command ≡ Exec s o value → ⊥) → is_of_jobs command ≡ false → is_beside command ≡ false
of_objects (Declare op name) no_site no_access no_jobs = absurd (no_site op name refl)
of_objects (Exec s o value) no_site no_access no_jobs = absurd (no_access s o value refl)
of_objects command no_site no_access no_jobs = no_jobs

-- its reply says nothing of it
told_nothing : {P : Type 0} (objects : ObjectsState P) (command : Command) (reply : Reply) → IsOnTables command → IsTrueReply objects command reply
told_nothing {P} objects (Shape o) reply on = absurd (cc)
told_nothing {P} objects (Same a b) reply on = absurd (cc)
told_nothing {P} objects (Declare op name) reply on = absurd (cc)
told_nothing {P} objects (Exec s o value) reply on = absurd (cc)
told_nothing {P} objects command reply on = tt

pub result_tells_nothing : {P : Type 0} (objects : ObjectsState P) (command : Command) (r : Result Reply Memory) → IsOnTables command → IfOk r (λ reply. IsTrueReply objects command reply)
result_tells_nothing {P} objects command (Ok reply) on = told_nothing objects command reply on
result_tells_nothing {P} objects command (Err fault) on = tt

-- a command that asks how objects are kept changes nothing
nothing_done : (there : Bool) → did_in (if there then None else Some (says NoObject)) ≡ Nothing
nothing_done true = refl
nothing_done false = refl

pub shape_does_nothing : (tables : Tables) (o : ℕ) → did_by tables (Shape o) ≡ Nothing
shape_does_nothing tables o = nothing_done (all_there tables (Shape o))

pub same_does_nothing : (tables : Tables) (a b : ℕ) → did_by tables (Same a b) ≡ Nothing
same_does_nothing tables a b = nothing_done (all_there tables (Same a b))

-- A command on objects, where there are sites beside them

same_act : (plain : PlainState) (command : Command) → is_beside command ≡ false → act_in plain command ≡ act_of plain.tables command
same_act plain (Declare op name) objects = absurd (cc)
same_act plain (Exec s o value) objects = absurd (cc)
same_act plain (Compile s) objects = absurd (cc)
same_act plain (Step j reads) objects = absurd (cc)
same_act plain (Finish j) objects = absurd (cc)
same_act plain command objects = refl

same_states : {P : Type 0} (objects : ObjectsState P) (sites : List SiteState) (command : Command) (chosen : Chosen) → is_beside command ≡ false → sites_by objects sites command chosen ≡ sites
same_states {P} objects sites (Declare op name) chosen on = absurd (cc)
same_states {P} objects sites (Exec s o value) chosen on = absurd (cc)
same_states {P} objects sites command chosen on = refl

-- a command on objects puts the plans into the log that it broke
broken_lines : {P : Type 0} (ready now : ObjectsState P) (sites : List SiteState) (command : Command) (chosen : Chosen) → is_beside command ≡ false → lines_of ready sites command chosen now ≡ lines_lost now sites
broken_lines {P} ready now sites (Declare op name) chosen on = absurd (cc)
broken_lines {P} ready now sites (Exec s o value) chosen on = absurd (cc)
broken_lines {P} ready now sites command chosen on = refl

chooses_nothing : {P : Type 0} (ready : ObjectsState P) (sites : List SiteState) (command : Command) (chosen : Chosen) → is_beside command ≡ false → Chooses ready sites command chosen
chooses_nothing {P} ready sites (Declare op name) chosen on = tt
chooses_nothing {P} ready sites (Exec s o value) chosen on = absurd (cc)
chooses_nothing {P} ready sites command chosen on = tt

not_cheap : {P : Type 0} (objects ready new : ObjectsState P) (sites : List SiteState) (command : Command) (chosen : Chosen) → is_beside command ≡ false → IsCheap objects ready sites command chosen new
not_cheap {P} objects ready new sites (Declare op name) chosen on = tt
not_cheap {P} objects ready new sites (Exec s o value) chosen on = absurd (cc)
not_cheap {P} objects ready new sites command chosen on = tt

-- it is accepted where each object that it names is there
pub accepted_there : {P : Type 0} (objects : ObjectsState P) (sites : List SiteState) (command : Command) → is_beside command ≡ false → is_accepted (plain_with objects sites) command ≡ all_there (tables_of objects) command
accepted_there {P} objects sites (Declare op name) on = absurd (cc)
accepted_there {P} objects sites (Exec s o value) on = absurd (cc)
accepted_there {P} objects sites (Compile s) on = absurd (cc)
accepted_there {P} objects sites (Step j reads) on = absurd (cc)
accepted_there {P} objects sites (Finish j) on = absurd (cc)
accepted_there {P} objects sites command on = refl

serve_objects : {P : Type 0} (went : P → List Access → List Access → P → Type 0) (old new : ObjectsState P) (sites : List SiteState) (log : List (ℕ × Line)) (command : Command) (reply : Reply) → is_beside command ≡ false → AnswersOnTables (tables_of old) command reply (tables_of new) → IsTrueReply new command reply
    → Used went old (all_there (tables_of old) command) command (did_by (tables_of old) command) new → Serves went old sites log command reply new (sites_left new sites) (log ++ lines_lost new sites)
serve_objects {P} went old new sites log command reply on answers kept used =
    let act : act_in (plain_with old sites) command ≡ act_of (tables_of old) command = same_act (plain_with old sites) command on in
    let accepted : is_accepted (plain_with old sites) command ≡ all_there (tables_of old) command = accepted_there old sites command on in
    record {
      reply_is = subst (λ (a : Option Act). IsReplyOf command a reply) (sym act) answers.reply_is;
      tables_are = subst (λ (a : Option Act). tables_of new ≡ with_world (tables_of old) (after (did_in a) (tables_of old).world)) (sym act) answers.tables_are;
      kept = kept;
      used = record {
        ready = used.ready;
        readied = subst (λ (x : Bool). AreReadied went old (uses_if x command) used.ready) (sym accepted) used.readied;
        done = subst (λ (x : Bool). Became went x used.ready command (did_in (act_in (plain_with old sites) command)) new) (sym accepted)
            (subst (λ (a : Option Act). Became went (all_there (tables_of old) command) used.ready command (did_in a) new) (sym act) used.done);
      };
      chosen = by_lookup;
      chooses = chooses_nothing used.ready sites command by_lookup on;
      bears = tt;
      sites_are = ap (λ (xs : List SiteState). sites_left new xs) (sym (same_states used.ready sites command by_lookup on));
      lines_are = ap (λ (xs : List (ℕ × Line)). log ++ xs) (sym (broken_lines used.ready new sites command by_lookup on));
      cheap = not_cheap old used.ready new sites command by_lookup on;
    }

-- loads after it change nothing of it
true_still : {P : Type 0} (mid new : ObjectsState P) (n : ℕ) (command : Command) (reply : Reply) → new ≡ record mid { heap = record mid.heap { desk = record mid.heap.desk { loads = n } } } → IsTrueReply mid command reply → IsTrueReply new command reply
true_still {P} mid new n (Shape o) reply is kept = subst (λ (s : ObjectsState P). IsTrueReply s (Shape o) reply) (sym is) (by reply kept)
  where
    by : (r : Reply) → IsTrueReply mid (Shape o) r → IsTrueReply (record mid { heap = record mid.heap { desk = record mid.heap.desk { loads = n } } }) (Shape o) r
    by (HowKept mode) h = h
    by r h = tt
true_still {P} mid new n (Same a b) reply is kept = subst (λ (s : ObjectsState P). IsTrueReply s (Same a b) reply) (sym is) (by reply kept)
  where
    by : (r : Reply) → IsTrueReply mid (Same a b) r → IsTrueReply (record mid { heap = record mid.heap { desk = record mid.heap.desk { loads = n } } }) (Same a b) r
    by (Flag same) h = record { itself = h.itself; others = h.others; words = h.words }
    by r h = tt
true_still {P} mid new n command reply is kept = tt

became_still : {P : Type 0} (went : P → List Access → List Access → P → Type 0) (accepted : Bool) (a b c : ObjectsState P) (command : Command) (did : Did) → is_beside command ≡ false → Became went accepted a command did b → IsStill b c → Became went accepted a command did c
became_still {P} went accepted a b c (Exec s o value) did on became still = absurd (cc)
became_still {P} went accepted a b c (Step j reads) did on became still = absurd (cc)
became_still {P} went accepted a b c (Finish j) did on became still = absurd (cc)
became_still {P} went accepted a b c command did on became still = came-after went a b c did became still

pub objects_served : {P : Type 0} (went : P → List Access → List Access → P → Type 0) (old mid new : ObjectsState P) (sites sites_now : List SiteState) (log log_now : List (ℕ × Line)) (command : Command) (reply : Reply) → is_beside command ≡ false → IsStill mid new → AnswersOnTables (tables_of old) command reply (tables_of mid) → IsTrueReply mid command reply
    → Used went old (all_there (tables_of old) command) command (did_by (tables_of old) command) mid → sites_now ≡ sites_left mid sites → log_now ≡ log ++ lines_lost mid sites → Serves went old sites log command reply new sites_now log_now
objects_served {P} went old mid new sites sites_now log log_now command reply on still answers kept used sited lined =
    let served =
    serve_objects went old new sites log command reply on (subst (λ (s : ObjectsState P). AnswersOnTables (tables_of old) command reply (tables_of s)) (sym still.is) answers) (true_still mid new new.heap.desk.loads command reply still.is kept)
    (record { ready = used.ready; readied = used.readied; done = became_still went (all_there (tables_of old) command) used.ready mid new command (did_by (tables_of old) command) on used.done still }) in
    subst (λ (xs : List SiteState). Serves went old sites log command reply new xs log_now) (ap (λ (s : ObjectsState P). sites_left s sites) still.is ∙ sym sited)
    (subst (λ (xs : List (ℕ × Line)). Serves went old sites log command reply new (sites_left new sites) xs) (ap (λ (s : ObjectsState P). log ++ lines_lost s sites) still.is ∙ sym lined) served)

-- what is left for want of memory, where there are sites beside the objects
pub result_left : {P : Type 0} (went : P → List Access → List Access → P → Type 0) (old new : ObjectsState P) (sites : List SiteState) (command : Command) (r : Result Reply Memory) → is_beside command ≡ false
    → OnErr r (MovesInWant went old (uses_if (all_there (tables_of old) command) command) new) → OnErr r (MovesInWant went old (uses_if (is_accepted (plain_with old sites) command) command) new)
result_left {P} went old new sites command (Ok reply) on want = tt
result_left {P} went old new sites command (Err fault) on want = subst (λ (x : Bool). MovesInWant went old (uses_if x command) new) (sym (accepted_there old sites command on)) want

-- A site that is declared

pub no_move : {P : Type 0} (objects : ObjectsState P) → IsStill objects objects
no_move {P} objects = record { is = refl; loads = omega arith }

pub declares : {P : Type 0} (went : P → List Access → List Access → P → Type 0) (objects : ObjectsState P) (old new : List SiteState) (op : Op) (name : ℕ) (reply : Reply) → reply ≡ SiteReply (length old) → new ≡ old ++ new_site (record { op = op; name = name }) ∷ []
    → sites_left objects new ≡ new → lines_lost objects new ≡ [] → (log : List (ℕ × Line)) → Serves went objects old log (Declare op name) reply objects new log
declares {P} went objects old new op name reply told added left none log = record {
  reply_is = rw (length-map old (λ (s : SiteState). s.site)) told;
  tables_are = refl;
  kept = tt;
  used = record { ready = objects; readied = refl; done = no_move objects };
  chosen = by_lookup;
  chooses = tt;
  bears = tt;
  sites_are = sym left ∙ ap (λ (xs : List SiteState). sites_left objects xs) added;
  lines_are = sym (append-nil log) ∙ ap (λ (xs : List (ℕ × Line)). log ++ xs) (sym none ∙ ap (λ (xs : List SiteState). lines_lost objects xs) added);
  cheap = tt;
}

pub result_still : {P : Type 0} (went : P → List Access → List Access → P → Type 0) (objects : ObjectsState P) (uses : List ℕ) (r : Result Reply Memory) → OnErr r (MovesInWant went objects uses objects)
result_still {P} went objects uses (Ok reply) = tt
result_still {P} went objects uses (Err fault) = record { first = []; left = uses; split = refl; ready = objects; readied = refl; moves = once-moves went objects objects (inl (no_move objects)) }

-- where neither sites nor log changed
pub result_same : {P : Type 0} (went : P → List Access → List Access → P → Type 0) (objects : ObjectsState P) (sites now : List SiteState) (log log_now : List (ℕ × Line)) (command : Command) (r : Result Reply Memory) → OnErr r (now ≡ sites) → OnErr r (log_now ≡ log) → OnErr r (NotedInWant went objects sites log command now log_now)
result_same {P} went objects sites now log log_now command (Ok reply) same quiet = tt
result_same {P} went objects sites now log log_now command (Err fault) same quiet = inl (same, quiet)

-- the log by one of its lines
pub result_with : {P : Type 0} (went : P → List Access → List Access → P → Type 0) (objects new : ObjectsState P) (old now : List SiteState) (command : Command) (r : Result Reply Memory) (log : List (ℕ × Line)) → IfOk r (λ reply. (log : List (ℕ × Line)) → Serves went objects old log command reply new now log) → IfOk r (λ reply. Serves went objects old log command reply new now log)
result_with {P} went objects new old now command (Ok reply) log serves = serves log
result_with {P} went objects new old now command (Err fault) log serves = tt

-- What is left for want of memory

pub noted_names : {P : Type 0} (went : P → List Access → List Access → P → Type 0) (old new : ObjectsState P) (sites sites_now : List SiteState) (log log_now : List (ℕ × Line)) (command : Command) (count : ℕ) → NotedInWant went old sites log command sites_now log_now → AreNamedSites count (plain_with old sites).sites → AreNamedSites count (plain_with new sites_now).sites
noted_names {P} went old new sites sites_now log log_now command count (inl same) named = subst (λ (xs : List SiteState). AreNamedSites count (plain_with new xs).sites) (sym same.0) named
noted_names {P} went old new sites sites_now log log_now command count (inr noted) named = subst (λ (xs : List SiteState). AreNamedSites count (plain_with new xs).sites) (sym noted.2.sites_are) (want-named count noted.0 sites command named)

pub result_names : {P : Type 0} (old : ObjectsState P) (sites sites_now : List SiteState) (log log_now : List (ℕ × Line)) (went : P → List Access → List Access → P → Type 0) (new : ObjectsState P) (command : Command) (r : Result Reply Memory) → HasNumbers command → IfOk r (λ reply. Serves went old sites log command reply new sites_now log_now) → OnErr r (NotedInWant went old sites log command sites_now log_now) → AreNamedSites TEXT_LIMIT (plain_with old sites).sites → AreNamedSites TEXT_LIMIT (plain_with new sites_now).sites
result_names {P} old sites sites_now log log_now went new command (Ok reply) numbers serves noted named =
    subst (λ (xs : List SiteState). AreNamedSites TEXT_LIMIT (plain_with new xs).sites) (sym serves.sites_are) (sites-named TEXT_LIMIT serves.used.ready new sites command serves.chosen numbers named)
result_names {P} old sites sites_now log log_now went new command (Err fault) numbers serves noted named = noted_names went old new sites sites_now log log_now command TEXT_LIMIT noted named

-- the sites that tables see
pub result_seen : {P : Type 0} (old : ObjectsState P) (sites sites_now : List SiteState) (log log_now : List (ℕ × Line)) (went : P → List Access → List Access → P → Type 0) (new : ObjectsState P) (command : Command) (r : Result Reply Memory) → IfOk r (λ reply. Serves went old sites log command reply new sites_now log_now) → OnErr r (NotedInWant went old sites log command sites_now log_now)
    → (map (λ (x : SiteState). x.site) sites_now ≡ sites_after (map (λ (x : SiteState). x.site) sites) command) ⊎ (map (λ (x : SiteState). x.site) sites_now ≡ map (λ (x : SiteState). x.site) sites)
result_seen {P} old sites sites_now log log_now went new command (Ok reply) serves noted =
    inl (ap (λ (xs : List SiteState). map (λ (x : SiteState). x.site) xs) serves.sites_are ∙ sites-left-seen serves.used.ready new sites command serves.chosen)
result_seen {P} old sites sites_now log log_now went new command (Err fault) serves (inl same) = inr (ap (λ (xs : List SiteState). map (λ (x : SiteState). x.site) xs) same.0)
result_seen {P} old sites sites_now log log_now went new command (Err fault) serves (inr noted) =
    inr (ap (λ (xs : List SiteState). map (λ (x : SiteState). x.site) xs) noted.2.sites_are ∙ want-seen noted.0 sites command)

-- a command that lacked memory
pub result_wants : {P : Type 0} (went : P → List Access → List Access → P → Type 0) (old new : Standing P) (command : Command) (r : Result Reply Memory) → OnErr r (MovesInWant went old.objects (uses_if (is_accepted (plain_of old) command) command) new.objects) → OnErr r (NotedInWant went old.objects old.sites old.log command new.sites new.log) → OnErr r (new.compiler ≡ old.compiler) → new.marks ≡ old.marks ++ mark_of old ∷ [] → OnErr r (Wants went old command new)
result_wants {P} went old new command (Ok reply) moves noted compiler marks = tt
result_wants {P} went old new command (Err fault) moves noted compiler marks = inr (record { moves = moves; noted = noted; compiler = compiler; mark = marks })

pub as_before : {P : Type 0} (went : P → List Access → List Access → P → Type 0) (old new : Standing P) (command : Command) → new.objects ≡ old.objects → new.sites ≡ old.sites → new.compiler ≡ old.compiler → new.log ≡ old.log → new.marks ≡ old.marks → Wants went old command new
as_before {P} went old new command objects sites compiler log marks = inl (record { objects = objects; sites = sites; compiler = compiler; log = log; marks = marks })

pub constants_kept : (old new : Trail) → new ≡ old → ConstantsStay old new
constants_kept old new same = subst (λ (t : Trail). ConstantsStay old t) (sym same) (λ o m k f d datum detail constness stable. refl)

pub on_err : {A B X : Type 0} (r : Result A B) → X → OnErr r X
on_err {A} {B} {X} (Ok x) holds = tt
on_err {A} {B} {X} (Err fault) holds = holds
