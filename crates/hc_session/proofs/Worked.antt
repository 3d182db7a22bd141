-- A command of jobs, as a command of a session.
use Rattle.std.proofs.Common.{◌≡◌, ℕ, zero, suc, ◌<◌, arith, Some, None, map, Bool, true, false, Ok, Err, List, [], ◌∷◌, ◌++◌, length, drop, append-nil, Option, refl, sym, ap, ◌∙◌, subst}
use Rattle.std.specs.Prelude.{◌⊎◌, IfOk, IsSomeAnd, Result, if◌then◌else◌, is_some, option_map, slice_get}
use Rattle.std.proofs.lemmas.List.{drop_at}
use Rattle.hc_board.specs.States.{counted}
use Rattle.hc_board.specs.Trail.{Access}
use Rattle.hc_value.specs.declared.memory.Memory.{Memory}
use Rattle.hc_value.specs.declared.reply.Reply.{Reply}
use Rattle.hc_commands.specs.declared.command.Command.{Command}
use Rattle.hc_commands.specs.declared.command.Command.TheVariants.{Compile, Step, Finish}
use Rattle.hc_commands.specs.declared.command.Reads.{Reads as Asked}
use Rattle.hc_compiler.specs.Ends.{HasEnded}
use Rattle.hc_compiler.specs.Jobs.{Opening, is_lent, opening_at, opening_of}
use Rattle.hc_jobs.specs.Opened.{open_at}
use Rattle.hc_jobs.specs.declared.table.OpenJob.{OpenJob}
use Rattle.hc_deps.specs.declared.verdict.Verdict.{Verdict}
use Rattle.hc_deps.specs.declared.verdict.Verdict.TheVariants.{Installed, Refused, NoPlan as NoVerdict}
use Rattle.hc_installed.specs.Settles.{verdict_line}
use Rattle.hc_plan.specs.declared.case.Site.{Site}
use Rattle.hc_plan.specs.declared.deps.Dep.{Dep}
use Rattle.hc_modes.specs.State.{ObjectsState}
use Rattle.hc_objects.specs.Came.{IsStill}
use Rattle.hc_ops.specs.Act.{Act}
use Rattle.hc_question.specs.declared.outcome.Outcome.{Outcome}
use Rattle.hc_report.specs.Lines.{log_line}
use Rattle.hc_report.specs.declared.line.Line.{Line}
use Rattle.hc_report.specs.declared.line.Line.TheVariants.{Install, Refuse, NoPlan as NoPlanLine}
use Rattle.hc_sites.specs.declared.state.SiteState.{SiteState}
use Rattle.hc_table.specs.Changes.{Nothing, after}
use Rattle.hc_table.specs.Kept.{with_world}
use Rattle.hc_session.specs.Jobs.{HasFinished, HasStarted, HasStepped, HaveMet, IsNotLent, Works, reads_for}
use Rattle.hc_session.specs.Plans.{AreSitesOf, AreUpheld, Chooses, Chosen, by_lookup, HadHeld, HasHeld, HasSettled}
use Rattle.hc_session.specs.Logging.{IsEnd, answers_in, lines_since, log_text, mark_of}
use Rattle.hc_session.specs.Plain.{AreJobsIf, IsEndText, IsEndTextIf, IsLogText, IsServed, PlainState, act_in, is_accepted_job, is_access, is_of_jobs, sites_after}
use Rattle.hc_session.specs.Serving.{Attends, ServesJobs}
use Rattle.hc_session.specs.Standing.{Standing, jobs_of, plain_among, plain_of, tables_of}
use Rattle.hc_session.specs.State.{AreSitesAfter, Became, Does, IsCheap, IsTrueReply, Stands, answer_since}
use Rattle.hc_session.specs.Tables.{IsReplyOf, did_in}
use Rattle.hc_session.specs.Using.{AreReadied, is_accepted, uses_if}
use Rattle.hc_session.proofs.Broken.{IsSteady, PlanLaws}
use Rattle.hc_session.proofs.Done.{beside_done}
use Rattle.hc_session.proofs.Logged.{AreLegal}
use Rattle.hc_session.proofs.Obeys.{no_move}
use Rattle.hc_session.proofs.Readers.{met-batch, met-none}
use Rattle.hc_session.proofs.Settled.{settled-same}
use Rattle.hc_session.proofs.Working.{finished-jobs, same-jobs, started-jobs, stepped-jobs}
use mathlib.Core.Logic.{inl, inr}

-- What is so of every command of jobs

of-accepted : (plain : PlainState) (command : Command) → is_of_jobs command ≡ true → is_accepted plain command ≡ is_accepted_job plain command
of-accepted plain (Compile s) on = refl
of-accepted plain (Step j reads) on = refl
of-accepted plain (Finish j) on = refl
of-accepted plain command on = absurd (cc)

none-used : (b : Bool) (uses : List ℕ) → uses ≡ [] → (if b then uses else []) ≡ []
none-used true uses none = none
none-used false uses none = refl

pub of-uses : (b : Bool) (command : Command) → is_of_jobs command ≡ true → uses_if b command ≡ []
of-uses b (Compile s) on = none-used b [] refl
of-uses b (Step j reads) on = none-used b [] refl
of-uses b (Finish j) on = none-used b [] refl
of-uses b command on = absurd (cc)

of-chooses : {P : Type 0} (ready : ObjectsState P) (sites : List SiteState) (command : Command) (chosen : Chosen) → is_of_jobs command ≡ true → Chooses ready sites command chosen
of-chooses {P} ready sites (Compile s) chosen on = tt
of-chooses {P} ready sites (Step j reads) chosen on = tt
of-chooses {P} ready sites (Finish j) chosen on = tt
of-chooses {P} ready sites command chosen on = absurd (cc)

of-after : (plain : PlainState) (command : Command) → is_of_jobs command ≡ true → sites_after plain.sites command ≡ plain.sites
of-after plain (Compile s) on = refl
of-after plain (Step j reads) on = refl
of-after plain (Finish j) on = refl
of-after plain command on = absurd (cc)

of-kept : {P : Type 0} (objects : ObjectsState P) (command : Command) (reply : Reply) → is_of_jobs command ≡ true → IsTrueReply objects command reply
of-kept {P} objects (Compile s) reply on = tt
of-kept {P} objects (Step j reads) reply on = tt
of-kept {P} objects (Finish j) reply on = tt
of-kept {P} objects command reply on = absurd (cc)

of-cheap : {P : Type 0} (objects ready new : ObjectsState P) (sites : List SiteState) (command : Command) (chosen : Chosen) → is_of_jobs command ≡ true → IsCheap objects ready sites command chosen new
of-cheap {P} objects ready new sites (Compile s) chosen on = tt
of-cheap {P} objects ready new sites (Step j reads) chosen on = tt
of-cheap {P} objects ready new sites (Finish j) chosen on = tt
of-cheap {P} objects ready new sites command chosen on = absurd (cc)

of-access : (plain : PlainState) (command : Command) → is_of_jobs command ≡ true → is_access plain command ≡ false
of-access plain (Compile s) on = refl
of-access plain (Step j reads) on = refl
of-access plain (Finish j) on = refl
of-access plain command on = absurd (cc)

-- the text of the log's lines
abbrev IsTextBy : Bool → ℕ → Command → List ℕ → Type 0
IsTextBy accepted count (Finish j) log = IsEndTextIf accepted count j log
IsTextBy accepted count command log = log ≡ []

of-text : (plain : PlainState) (command : Command) (log : List ℕ) → is_of_jobs command ≡ true → IsTextBy (is_accepted_job plain command) (length plain.sites) command log → IsLogText plain command log
of-text plain (Compile s) log on text = text
of-text plain (Step j reads) log on text = text
of-text plain (Finish j) log on text = text
of-text plain command log on text = absurd (cc)

-- the site of an open job is one of those that are there
site-within : (sites : List SiteState) (n : ℕ) (Q : SiteState → Type 0) → IsSomeAnd (slice_get sites n) Q → n < length (map (λ (x : SiteState). x.site) sites)
site-within [] n Q h = absurd h
site-within (x ∷ xs) zero Q h = omega arith
site-within (x ∷ xs) (suc n) Q h = omega (arith, site-within xs n Q h)

given-within : (sites : List SiteState) (jobs : List OpenJob) (j : ℕ) (given : Opening) → AreSitesOf sites jobs → opening_at jobs j ≡ Some given → given.site < length (map (λ (x : SiteState). x.site) sites)
given-within sites jobs j given opened is = by (open_at jobs j) refl is
  where
    by : (o : Option OpenJob) → open_at jobs j ≡ o → option_map opening_of o ≡ Some given → given.site < length (map (λ (x : SiteState). x.site) sites)
    by None here same = let f : ⊥ = cc in absurd f
    by (Some x) here same =
        subst (λ (o : Option Opening). IsSomeAnd o (λ (y : Opening). y.site < length (map (λ (z : SiteState). z.site) sites))) same (site-within sites x.job.site _ (opened j x here))

-- What one did

-- what is told apart by whether it was accepted
record HasWorked {P : Type 0} (goes_with : P → List Access → List Access → P → Type 0) (accepted : Bool) (old : Standing P) (command : Command) (new : Standing P) (lines : List (ℕ × Line)) : Type 0 where
  pub met : HaveMet old.objects new.objects
  pub jobs : AreJobsIf accepted command (jobs_of old.compiler) (jobs_of new.compiler)
  pub became : Became goes_with accepted old.objects command Nothing new.objects
  pub sites : (chosen : Chosen) → AreSitesAfter old.objects old.sites command chosen new.objects new.sites
  pub seen : map (λ (x : SiteState). x.site) new.sites ≡ map (λ (x : SiteState). x.site) old.sites
  pub text : IsTextBy accepted (length (plain_of old).sites) command (log_text lines)
  pub legal : AreLegal old old.objects command new.objects lines
  pub none : answers_in lines ≡ 0

module _ {P : Type 0} (went : P → List Access → List Access → P → Type 0) (old new : Standing P) (lines : List (ℕ × Line)) where
  still-became : (accepted : Bool) (command : Command) → is_of_jobs command ≡ true → new.objects ≡ old.objects → Became went accepted old.objects command Nothing new.objects
  still-became accepted (Compile s) on same = subst (λ (x : ObjectsState P). IsStill old.objects x) (sym same) (no_move old.objects)
  still-became accepted (Step j reads) on same = inl (subst (λ (x : ObjectsState P). IsStill old.objects x) (sym same) (no_move old.objects))
  still-became accepted (Finish j) on same = inl (subst (λ (x : ObjectsState P). IsStill old.objects x) (sym same) (no_move old.objects))
  still-became accepted command on same = absurd (cc)

  idle-jobs : (command : Command) → is_of_jobs command ≡ true → new.compiler ≡ old.compiler → AreJobsIf false command (jobs_of old.compiler) (jobs_of new.compiler)
  idle-jobs (Compile s) on same = same-jobs old.compiler new.compiler same
  idle-jobs (Step j reads) on same = same-jobs old.compiler new.compiler same
  idle-jobs (Finish j) on same = same-jobs old.compiler new.compiler same
  idle-jobs command on same = absurd (cc)

  idle-is : (command : Command) → is_of_jobs command ≡ true → Works false old.objects old.sites old.compiler command new.objects new.sites new.compiler lines → new.compiler ≡ old.compiler
  idle-is (Compile s) on works = works
  idle-is (Step j reads) on works = works
  idle-is (Finish j) on works = works.0
  idle-is command on works = absurd (cc)

  idle-text : (command : Command) (count : ℕ) → is_of_jobs command ≡ true → IsTextBy false count command (log_text [])
  idle-text (Compile s) count on = refl
  idle-text (Step j reads) count on = refl
  idle-text (Finish j) count on = refl
  idle-text command count on = absurd (cc)

  same-sites : (command : Command) (chosen : Chosen) → is_of_jobs command ≡ true → new.sites ≡ old.sites → AreSitesAfter old.objects old.sites command chosen new.objects new.sites
  same-sites (Compile s) chosen on same = same
  same-sites (Step j reads) chosen on same = same
  same-sites (Finish j) chosen on same = tt
  same-sites command chosen on same = absurd (cc)

  seen-same : new.sites ≡ old.sites → map (λ (x : SiteState). x.site) new.sites ≡ map (λ (x : SiteState). x.site) old.sites
  seen-same same = ap (λ (xs : List SiteState). map (λ (x : SiteState). x.site) xs) same

  -- it is refused
  idle-worked : (command : Command) → is_of_jobs command ≡ true → new.objects ≡ old.objects → new.sites ≡ old.sites → lines ≡ [] → Works false old.objects old.sites old.compiler command new.objects new.sites new.compiler lines → HasWorked went false old command new lines
  idle-worked command on same sited none works = record {
    met = met-none old.objects new.objects same;
    jobs = idle-jobs command on (idle-is command on works);
    became = still-became false command on same;
    sites = λ chosen. same-sites command chosen on sited;
    seen = seen-same sited;
    text = subst (λ (xs : List (ℕ × Line)). IsTextBy false (length (plain_of old).sites) command (log_text xs)) (sym none) (idle-text command (length (plain_of old).sites) on);
    legal = subst (AreLegal old old.objects command new.objects) (sym none) tt;
    none = ap answers_in none;
  }

  started-worked : (s : ℕ) → HasStarted old.objects old.sites old.compiler s new.objects new.compiler → new.sites ≡ old.sites → lines ≡ [] → HasWorked went true old (Compile s) new lines
  started-worked s h sited none = record {
    met = met-none old.objects new.objects h.same;
    jobs = started-jobs old.objects old.compiler new.objects new.compiler old.sites s h;
    became = still-became true (Compile s) refl h.same;
    sites = λ chosen. sited;
    seen = seen-same sited;
    text = ap log_text none;
    legal = subst (AreLegal old old.objects (Compile s) new.objects) (sym none) tt;
    none = ap answers_in none;
  }

  stepped-worked : (j : ℕ) (reads : Asked) → HasStepped (reads_for reads) old.objects old.compiler j new.objects new.compiler → new.sites ≡ old.sites → lines ≡ [] → HasWorked went true old (Step j reads) new lines
  stepped-worked j reads h sited none = record {
    met = met-batch old.objects new.objects _ h.steps.batch.objects;
    jobs = stepped-jobs old.objects old.compiler new.objects new.compiler (reads_for reads) j h;
    became = inr (refl, met-batch old.objects new.objects _ h.steps.batch.objects);
    sites = λ chosen. sited;
    seen = seen-same sited;
    text = ap log_text none;
    legal = subst (AreLegal old old.objects (Step j reads) new.objects) (sym none) tt;
    none = ap answers_in none;
  }

  -- a job that ended
  end-text : (count at j site : ℕ) (verdict : Verdict) → site < count → IsEndText count j (log_text ((at, verdict_line j site verdict) ∷ []))
  end-text count at j site Installed lt = inl (site, lt, append-nil (log_line (Install j site)))
  end-text count at j site (Refused dep) lt = inr (inl (dep, append-nil (log_line (Refuse j dep))))
  end-text count at j site (NoVerdict why) lt = inr (inr (why, append-nil (log_line (NoPlanLine j why))))

  end-legal : (at j : ℕ) (given : Opening) (outcome : Outcome) (verdict : Verdict) → IsEnd old j at given outcome verdict new.objects → HadHeld new.objects given.start verdict → AreLegal old old.objects (Finish j) new.objects ((at, verdict_line j given.site verdict) ∷ [])
  end-legal at j given outcome Installed is held = ((refl, (given, outcome, is, refl)), tt)
  end-legal at j given outcome (Refused dep) is held = ((refl, (given, outcome, is, held)), tt)
  end-legal at j given outcome (NoVerdict why) is held = ((refl, (given, outcome, is, tt)), tt)

  end-none : (at j site : ℕ) (verdict : Verdict) → answers_in ((at, verdict_line j site verdict) ∷ []) ≡ 0
  end-none at j site Installed = refl
  end-none at j site (Refused dep) = refl
  end-none at j site (NoVerdict why) = refl

  settled-worked : (j : ℕ) (given : Opening) (outcome : Outcome) (verdict : Verdict) → is_lent old.compiler.lent j ≡ false → AreSitesOf old.sites old.compiler.jobs → opening_at old.compiler.jobs j ≡ Some given → HasFinished old.objects old.compiler j outcome new.objects new.compiler → HasSettled old.objects old.sites given j outcome verdict new.objects new.sites lines → HasWorked went true old (Finish j) new lines
  settled-worked j given outcome verdict own opened here h settled =
      let met : HaveMet old.objects new.objects = (_, subst (λ (s : ObjectsState P). IsStill s new.objects) h.finishes.batch.objects h.looked) in
      let at = counted (length old.objects.heap.desk.trail) in
      let position : at ≡ counted (length new.objects.heap.desk.trail) = sym (ap (λ (s : ObjectsState P). counted (length s.heap.desk.trail)) met.1.is) in
      record {
        met = met;
        jobs = finished-jobs old.objects old.compiler new.objects new.compiler j outcome own h;
        became = inr (refl, met);
        sites = λ chosen. tt;
        seen = ap (λ (xs : List SiteState). map (λ (x : SiteState). x.site) xs) settled.sites_are ∙ settled-same old.sites given.site outcome verdict;
        text = subst (λ (xs : List (ℕ × Line)). IsEndText (length (plain_of old).sites) j (log_text xs)) (sym settled.lines_are) (end-text (length (plain_of old).sites) at j given.site verdict (given-within old.sites old.compiler.jobs j given opened here));
        legal = subst (AreLegal old old.objects (Finish j) new.objects) (sym settled.lines_are) (end-legal at j given outcome verdict (record { was = here; ended = h.ended; position = position; verdict_is = settled.verdict_is }) settled.held);
        none = ap answers_in settled.lines_are ∙ end-none at j given.site verdict;
      }

  finished-worked : (j : ℕ) (outcome : Outcome) (verdict : Verdict) → is_lent old.compiler.lent j ≡ false → AreSitesOf old.sites old.compiler.jobs → HasFinished old.objects old.compiler j outcome new.objects new.compiler → IsSomeAnd (opening_at old.compiler.jobs j) (λ given. HasSettled old.objects old.sites given j outcome verdict new.objects new.sites lines) → HasWorked went true old (Finish j) new lines
  finished-worked j outcome verdict own opened h settled = by (opening_at old.compiler.jobs j) refl settled
    where
      by : (o : Option Opening) → opening_at old.compiler.jobs j ≡ o → IsSomeAnd o (λ given. HasSettled old.objects old.sites given j outcome verdict new.objects new.sites lines) → HasWorked went true old (Finish j) new lines
      by None is there = absurd there
      by (Some given) is there = settled-worked j given outcome verdict own opened is h there

  -- whichever it is
  worked : (accepted : Bool) (command : Command) → is_of_jobs command ≡ true → IsNotLent old.compiler.lent command → AreSitesOf old.sites old.compiler.jobs → (accepted ≡ false → (new.objects ≡ old.objects) × ((new.sites ≡ old.sites) × (lines ≡ []))) → Works accepted old.objects old.sites old.compiler command new.objects new.sites new.compiler lines → HasWorked went accepted old command new lines
  worked false command on own opened refused works = idle-worked command on (refused refl).0 (refused refl).1.0 (refused refl).1.1 works
  worked true (Compile s) on own opened refused works = started-worked s works.0 works.1 works.2
  worked true (Step j reads) on own opened refused works = stepped-worked j reads works.0 works.1 works.2
  worked true (Finish j) on own opened refused works = finished-worked j works.0 works.1 own opened works.2 works.3
  worked true command on own opened refused works = absurd (cc)

module _ {P : Type 0} (went : P → List Access → List Access → P → Type 0) (laws : PlanLaws went) (old new : Standing P) (command : Command) (reply : Reply) where
  -- what it does, as a command of a session
  jobs-done : IsServed command → IsNotLent old.compiler.lent command → AreSitesOf old.sites old.compiler.jobs → ServesJobs old.objects old.sites old.compiler old.log command reply new.objects new.sites new.compiler new.log → new.marks ≡ old.marks ++ mark_of old ∷ [] → Stands new.objects → AreUpheld new.objects new.sites → new.lacking ≡ false → Does went old command (answer_since old reply new) new
  jobs-done served own opened serves marks stands plans going =
      let plain = plain_of old in
      let accepted = is_accepted_job plain command in
      let did = worked went old new serves.lines accepted command serves.of_jobs own opened serves.refused serves.works in
      let same : tables_of new.objects ≡ tables_of old.objects = ap (λ (s : ObjectsState P). tables_of s) did.met.1.is in
      let lines : lines_since old new ≡ serves.lines = ap (λ (xs : List (ℕ × Line)). drop (length old.log) xs) serves.lines_are ∙ drop_at old.log serves.lines (length old.log) refl in
      record {
        served = served;
        answers = record {
          reply_is = subst (λ (x : Option Act). IsReplyOf command x reply) (sym serves.reply_is) refl;
          tables_are = subst (λ (x : Option Act). tables_of new.objects ≡ with_world (tables_of old.objects) (after (did_in x) (tables_of old.objects).world)) (sym serves.reply_is) same;
          sites_are = did.seen ∙ sym (of-after plain command serves.of_jobs);
          jobs_are = did.jobs;
          log_is = subst (λ (xs : List (ℕ × Line)). IsLogText plain command (log_text xs)) (sym lines) (of-text plain command (log_text serves.lines) serves.of_jobs did.text);
        };
        kept = of-kept new.objects command reply serves.of_jobs;
        used = record {
          ready = old.objects;
          readied = subst (λ (xs : List ℕ). AreReadied went old.objects xs old.objects) (sym (of-uses (is_accepted plain command) command serves.of_jobs)) refl;
          done = subst (λ (x : Bool). Became went x old.objects command (did_in (act_in plain command)) new.objects) (sym (of-accepted plain command serves.of_jobs))
              (subst (λ (x : Option Act). Became went accepted old.objects command (did_in x) new.objects) (sym serves.reply_is) did.became);
        };
        stands = stands;
        chosen = by_lookup;
        chooses = of-chooses old.objects old.sites command by_lookup serves.of_jobs;
        sites = did.sites by_lookup;
        plans = plans;
        jobs = subst (Works accepted old.objects old.sites old.compiler command new.objects new.sites new.compiler) (sym lines) serves.works;
        cheap = of-cheap old.objects old.objects new.objects old.sites command by_lookup serves.of_jobs;
        logs = record {
          mark = marks;
          log = serves.lines_are ∙ ap (λ (xs : List (ℕ × Line)). old.log ++ xs) (sym lines);
          legal = subst (AreLegal old old.objects command new.objects) (sym lines) did.legal;
          one = ap answers_in lines ∙ (did.none ∙ sym (ap (λ (b : Bool). if b then 1 else 0) (of-access plain command serves.of_jobs)));
        };
        log_is = refl;
        going = going;
      }

  -- a command of either kind
  pub attends-done : IsSteady old.objects old.sites → IsServed command → IsNotLent old.compiler.lent command → AreSitesOf old.sites old.compiler.jobs → Attends went old.objects old.sites old.compiler old.log command reply new.objects new.sites new.compiler new.log → new.marks ≡ old.marks ++ mark_of old ∷ [] → Stands new.objects → AreUpheld new.objects new.sites → new.lacking ≡ false → Does went old command (answer_since old reply new) new
  attends-done steady served own opened (inl beside) marks stands plans going = beside_done went laws old new command reply steady served beside marks stands plans going
  attends-done steady served own opened (inr jobs) marks stands plans going = jobs-done served own opened jobs marks stands plans going

module _ {P : Type 0} (went : P → List Access → List Access → P → Type 0) (laws : PlanLaws went) where
  pub result-does : (old new : Standing P) (command : Command) (r : Result Reply Memory) → IsSteady old.objects old.sites → IsServed command → IsNotLent old.compiler.lent command → AreSitesOf old.sites old.compiler.jobs → IfOk r (λ reply. Attends went old.objects old.sites old.compiler old.log command reply new.objects new.sites new.compiler new.log) → new.marks ≡ old.marks ++ mark_of old ∷ [] → Stands new.objects → AreUpheld new.objects new.sites → new.lacking ≡ false → IfOk r (λ reply. Does went old command (answer_since old reply new) new)
  result-does old new command (Ok reply) steady served own opened attends marks stands plans going = attends-done went laws old new command reply steady served own opened attends marks stands plans going
  result-does old new command (Err fault) steady served own opened attends marks stands plans going = tt
