-- A command that isn't one of jobs, as a command of a session.
use Rattle.std.proofs.Common.{◌≡◌, ℕ, Bool, true, false, ◌&&◌, List, [], ◌∷◌, ◌++◌, length, map, drop, Option, Some, None, refl, sym, ap, ◌∙◌, subst}
use Rattle.std.specs.Prelude.{◌⊎◌, if◌then◌else◌, slice_get}
use Rattle.std.proofs.lemmas.List.{drop_at}
use Rattle.hc_access.specs.Accesses.{AskedCell, site_at}
use Rattle.hc_board.specs.Trail.{Access}
use Rattle.hc_value.specs.declared.reply.Reply.{Reply}
use Rattle.hc_value.specs.declared.reply.Reply.TheVariants.{NoObject}
use Rattle.hc_value.specs.declared.value.Value.{Value}
use Rattle.hc_commands.specs.declared.command.Command.{Command}
use Rattle.hc_commands.specs.declared.command.Command.TheVariants.{Declare, Exec, Compile, Step, Finish}
use Rattle.hc_compiler.specs.Jobs.{Compiling}
use Rattle.hc_modes.specs.State.{ObjectsState}
use Rattle.hc_objects.specs.Came.{Came, IsStill}
use Rattle.hc_ops.specs.Act.{Act}
use Rattle.hc_ops.specs.Get.{get_reply}
use Rattle.hc_ops.specs.Set.{set_act}
use Rattle.hc_plan.specs.declared.case.Op.{Op}
use Rattle.hc_plan.specs.declared.case.Op.TheVariants.{Load, Store}
use Rattle.hc_plan.specs.declared.case.Site.{Site}
use Rattle.hc_report.specs.declared.line.Line.{Line}
use Rattle.hc_sites.specs.State.{new_site}
use Rattle.hc_sites.specs.declared.state.SiteState.{SiteState}
use Rattle.hc_table.specs.Changes.{Did, Nothing, after}
use Rattle.hc_table.specs.Kept.{Kept as Tables, with_world}
use Rattle.hc_session.specs.Jobs.{Works}
use Rattle.hc_session.specs.Logging.{lines_since, log_text, mark_of, answers_in}
use Rattle.hc_session.specs.Plain.{AreJobsAfter, IsLogText, IsServed, PlainJobs, PlainState, access_act, act_in, exec_act, is_accepted_at, is_accepted_by, is_accepted_job, is_access, is_of_jobs, sites_after}
use Rattle.hc_session.specs.Plans.{AreUpheld, Chosen, lines_lost, sites_left}
use Rattle.hc_session.specs.Serving.{ServesBeside, lines_of}
use Rattle.hc_session.specs.Standing.{Standing, jobs_of, plain_of, plain_with, tables_of}
use Rattle.hc_session.specs.State.{AreSitesAfter, Became, Does, Stands, Used, answer_since, sites_at, sites_by}
use Rattle.hc_session.specs.Tables.{IsReplyOf, act_there, all_there, did_in, is_among, names_among, says}
use Rattle.hc_session.specs.Using.{AreReadied, is_accepted, uses_if}
use Rattle.hc_session.proofs.Broken.{IsSteady, PlanLaws, readied-steady, still-none}
use Rattle.hc_session.proofs.Declares.{sites-left-seen}
use Rattle.hc_session.proofs.Logged.{AreLegal, line_text, lines_by, lines_legal, one_line, same_access}
use Rattle.hc_session.proofs.Readied.{readied-tables}
use mathlib.Core.Logic.{inl, inr}

-- Where there are jobs beside objects and sites

beside_act : (plain : PlainState) (jobs : PlainJobs) (command : Command) → is_of_jobs command ≡ false → act_in (record plain { jobs = jobs }) command ≡ act_in plain command
beside_act plain jobs (Compile s) not = absurd (cc)
beside_act plain jobs (Step j reads) not = absurd (cc)
beside_act plain jobs (Finish j) not = absurd (cc)
beside_act plain jobs command not = refl

pub beside_accepted : (plain : PlainState) (jobs : PlainJobs) (command : Command) → is_of_jobs command ≡ false → is_accepted (record plain { jobs = jobs }) command ≡ is_accepted plain command
beside_accepted plain jobs (Compile s) not = absurd (cc)
beside_accepted plain jobs (Step j reads) not = absurd (cc)
beside_accepted plain jobs (Finish j) not = absurd (cc)
beside_accepted plain jobs command not = refl

jobs_stay : (plain : PlainState) (command : Command) → is_of_jobs command ≡ false → AreJobsAfter plain command plain.jobs
jobs_stay plain (Compile s) not = absurd (cc)
jobs_stay plain (Step j reads) not = absurd (cc)
jobs_stay plain (Finish j) not = absurd (cc)
jobs_stay plain command not = record { started = refl; opened = λ j. refl; count = refl }

idle_works : {P : Type 0} (accepted : Bool) (a : ObjectsState P) (sites : List SiteState) (c : Compiling) (command : Command) (b : ObjectsState P) (sites_now : List SiteState) (now : Compiling) (lines : List (ℕ × Line)) → is_of_jobs command ≡ false → now ≡ c → Works accepted a sites c command b sites_now now lines
idle_works {P} accepted a sites c (Compile s) b sites_now now lines not same = absurd (cc)
idle_works {P} accepted a sites c (Step j reads) b sites_now now lines not same = absurd (cc)
idle_works {P} accepted a sites c (Finish j) b sites_now now lines not same = absurd (cc)
idle_works {P} true a sites c command b sites_now now lines not same = same
idle_works {P} false a sites c command b sites_now now lines not same = same

after_sites : {P : Type 0} (ready : ObjectsState P) (sites : List SiteState) (command : Command) (chosen : Chosen) (now : ObjectsState P) (sites_now : List SiteState) → is_of_jobs command ≡ false → sites_now ≡ sites_left now (sites_by ready sites command chosen) → AreSitesAfter ready sites command chosen now sites_now
after_sites {P} ready sites (Compile s) chosen now sites_now not is = absurd (cc)
after_sites {P} ready sites (Step j reads) chosen now sites_now not is = absurd (cc)
after_sites {P} ready sites (Finish j) chosen now sites_now not is = absurd (cc)
after_sites {P} ready sites command chosen now sites_now not is = is

-- One that is refused does nothing

says_nothing : (b : Bool) (x y : Reply) → (if b then says x else says y).did ≡ Nothing
says_nothing true x y = refl
says_nothing false x y = refl

access_none : (tables : Tables) (op : Op) (name o : ℕ) (value : Option Value) → is_accepted_by tables op o value ≡ false → (access_act tables op name o value).did ≡ Nothing
access_none tables Load name o None refused = says_nothing (is_among (length tables.world) o) (get_reply tables.world o name) NoObject
access_none tables Load name o (Some v) refused = refl
access_none tables Store name o None refused = refl
access_none tables Store name o (Some v) refused = ap (λ (b : Bool). (if b then set_act tables.world o name v else says NoObject).did) refused

exec_none : (tables : Tables) (site : Option Site) (o : ℕ) (value : Option Value) → is_accepted_at tables site o value ≡ false → (exec_act tables site o value).did ≡ Nothing
exec_none tables None o value refused = refl
exec_none tables (Some site) o value refused = access_none tables site.op site.name o value refused

module _ {P : Type 0} (went : P → List Access → List Access → P → Type 0) (laws : PlanLaws went) (old : ObjectsState P) (sites : List SiteState) (steady : IsSteady old sites) (now : ObjectsState P) where
  -- so no plan is broken, nor where a site is declared
  none_lost : (ready : ObjectsState P) → ready ≡ old → IsStill ready now → lines_lost now sites ≡ []
  none_lost ready same still = still-none went laws old sites steady now (subst (λ (s : ObjectsState P). IsStill s now) same still)

  declared_none : (op : Op) (name : ℕ) (ready : ObjectsState P) → ready ≡ old → IsStill ready now → lines_lost now (sites ++ new_site (record { op = op; name = name }) ∷ []) ≡ []
  declared_none op name ready same still =
      still-none went laws old (sites ++ new_site (record { op = op; name = name }) ∷ [])
      (record { standing = steady.standing; desk = steady.desk; calm = steady.calm; installed = laws.more old.heap.view.shape old.heap.view.trail sites (record { op = op; name = name }) steady.installed })
      now (subst (λ (s : ObjectsState P). IsStill s now) same still)

  refused_exec : (s o : ℕ) (value : Option Value) (chosen : Chosen) (ready : ObjectsState P) → is_access (plain_with old sites) (Exec s o value) ≡ false → ready ≡ old
      → Came went ready (exec_act (tables_of old) (slice_get (plain_with old sites).sites s) o value).did now ⊎ ((is_access (plain_with old sites) (Exec s o value) ≡ true) × ((exec_act (tables_of old) (slice_get (plain_with old sites).sites s) o value).did ≡ Nothing) × AskedCell went ready now) → lines_of ready sites (Exec s o value) chosen now ≡ []
  refused_exec s o value chosen ready refused same (inr asked) = let f : ⊥ = cc (asked.0, refused) in absurd f
  refused_exec s o value chosen ready refused same (inl came) =
      let did = exec_none (tables_of old) (slice_get (plain_with old sites).sites s) o value refused in
      let then_is : is_access (plain_with ready sites) (Exec s o value) ≡ false = same_access old ready sites (Exec s o value) (ap (λ (x : ObjectsState P). tables_of x) same) ∙ refused in
      let later : sites_by ready sites (Exec s o value) chosen ≡ sites = ap (λ (b : Bool). if b then sites_at ready (sites_left ready sites) s o (site_at sites s) chosen else sites) then_is in
      ap (λ (b : Bool). lines_by b ready sites (sites_by ready sites (Exec s o value) chosen) s chosen now) then_is
      ∙ (ap (λ (xs : List SiteState). lines_lost now xs) later ∙ none_lost ready same (subst (λ (d : Did). Came went ready d now) did came))

  refused_lines : (command : Command) (chosen : Chosen) → is_of_jobs command ≡ false → is_accepted (plain_with old sites) command ≡ false
      → (used : Used went old (is_accepted (plain_with old sites) command) command (did_in (act_in (plain_with old sites) command)) now) → lines_of used.ready sites command chosen now ≡ []
  refused_lines (Declare op name) chosen not refused used = let f : ⊥ = cc in absurd f
  refused_lines (Exec s o value) chosen not refused used =
      refused_exec s o value chosen used.ready refused (subst (λ (b : Bool). AreReadied went old (uses_if b (Exec s o value)) used.ready) refused used.readied) used.done
  refused_lines (Compile s) chosen not refused used = absurd (cc)
  refused_lines (Step j reads) chosen not refused used = absurd (cc)
  refused_lines (Finish j) chosen not refused used = absurd (cc)
  refused_lines command chosen not refused used =
      let did : did_in (act_in (plain_with old sites) command) ≡ Nothing = ap (λ (b : Bool). did_in (if b then act_there (tables_of old) command else Some (says NoObject))) refused in
      none_lost used.ready (subst (λ (b : Bool). AreReadied went old (uses_if b command) used.ready) refused used.readied) (subst (λ (d : Did). Came went used.ready d now) did used.done)

  declared_lines : (op : Op) (name : ℕ) (chosen : Chosen) → (used : Used went old (is_accepted (plain_with old sites) (Declare op name)) (Declare op name) (did_in (act_in (plain_with old sites) (Declare op name))) now) → lines_of used.ready sites (Declare op name) chosen now ≡ []
  declared_lines op name chosen used = declared_none op name used.ready used.readied used.done

-- All that a command does

module _ {P : Type 0} (went : P → List Access → List Access → P → Type 0) (laws : PlanLaws went) where
  pub beside_done : (old new : Standing P) (command : Command) (reply : Reply) → IsSteady old.objects old.sites → IsServed command → ServesBeside went old.objects old.sites old.compiler old.log command reply new.objects new.sites new.compiler new.log → new.marks ≡ old.marks ++ mark_of old ∷ [] → Stands new.objects → AreUpheld new.objects new.sites → new.lacking ≡ false
      → Does went old command (answer_since old reply new) new
  beside_done old new command reply steady served beside marks stands plans going =
      let serves = beside.serves in
      let ready = serves.used.ready in
      let chosen = serves.chosen in
      let not = beside.not_of_jobs in
      let plain = plain_with old.objects old.sites in
      let act : act_in (plain_of old) command ≡ act_in plain command = beside_act plain (jobs_of old.compiler) command not in
      let accepted : is_accepted (plain_of old) command ≡ is_accepted plain command = beside_accepted plain (jobs_of old.compiler) command not in
      let same : tables_of ready ≡ tables_of old.objects = readied-tables went (uses_if (is_accepted plain command) command) old.objects ready serves.used.readied in
      let there = readied-steady went laws old.objects old.sites steady (uses_if (is_accepted plain command) command) ready serves.used.readied in
      let lines : lines_since old new ≡ lines_of ready old.sites command chosen new.objects = ap (λ (xs : List (ℕ × Line)). drop (length old.log) xs) serves.lines_are ∙ drop_at old.log (lines_of ready old.sites command chosen new.objects) (length old.log) refl in
      record {
        served = served;
        answers = record {
          reply_is = subst (λ (x : Option Act). IsReplyOf command x reply) (sym act) serves.reply_is;
          tables_are = subst (λ (x : Option Act). tables_of new.objects ≡ with_world (tables_of old.objects) (after (did_in x) (tables_of old.objects).world)) (sym act) serves.tables_are;
          sites_are = ap (λ (xs : List SiteState). map (λ (x : SiteState). x.site) xs) serves.sites_are ∙ sites-left-seen ready new.objects old.sites command chosen;
          jobs_are = subst (λ (c : Compiling). AreJobsAfter (plain_of old) command (jobs_of c)) (sym beside.compiler_is) (jobs_stay (plain_of old) command not);
          log_is = subst (λ (xs : List (ℕ × Line)). IsLogText (plain_of old) command (log_text xs)) (sym lines)
              (line_text old ready new.objects same command chosen not (λ op name is. declared op name is) (λ refused. refused_lines went laws old.objects old.sites steady new.objects command chosen not (sym accepted ∙ refused) serves.used));
        };
        kept = serves.kept;
        used = record {
          ready = ready;
          readied = subst (λ (x : Bool). AreReadied went old.objects (uses_if x command) ready) (sym accepted) serves.used.readied;
          done = subst (λ (x : Bool). Became went x ready command (did_in (act_in (plain_of old) command)) new.objects) (sym accepted)
              (subst (λ (x : Option Act). Became went (is_accepted plain command) ready command (did_in x) new.objects) (sym act) serves.used.done);
        };
        stands = stands;
        chosen = chosen;
        chooses = serves.chooses;
        sites = after_sites ready old.sites command chosen new.objects new.sites not serves.sites_are;
        plans = plans;
        jobs = idle_works (is_accepted_job (plain_of old) command) old.objects old.sites old.compiler command new.objects new.sites new.compiler (lines_since old new) not beside.compiler_is;
        cheap = serves.cheap;
        logs = record {
          mark = marks;
          log = serves.lines_are ∙ ap (λ (xs : List (ℕ × Line)). old.log ++ xs) (sym lines);
          legal = subst (AreLegal old ready command new.objects) (sym lines) (lines_legal went laws old ready new.objects steady there.0 there.1 command chosen same serves.chooses serves.bears);
          one = ap answers_in lines ∙ one_line old ready new.objects same command chosen;
        };
        log_is = refl;
        going = going;
      }
    where
      declared : (op : Op) (name : ℕ) → command ≡ Declare op name → lines_of beside.serves.used.ready old.sites command beside.serves.chosen new.objects ≡ []
      declared op name is = by command is beside.serves.used
        where
          by : (c : Command) → c ≡ Declare op name → (used : Used went old.objects (is_accepted (plain_with old.objects old.sites) c) c (did_in (act_in (plain_with old.objects old.sites) c)) new.objects) → lines_of used.ready old.sites c beside.serves.chosen new.objects ≡ []
          by (Declare other k) is used = declared_lines went laws old.objects old.sites steady new.objects other k beside.serves.chosen used
          by c is used = let f : ⊥ = cc (is) in absurd f
