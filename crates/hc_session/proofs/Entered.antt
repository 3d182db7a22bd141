-- What commands of jobs are answered.
use Rattle.std.proofs.Common.{◌≡◌, ℕ, ◌+◌, ◌<◌, ◌≤◌, Ok, Err, Bool, true, false, ◌&&◌, List, [], ◌++◌, length, append-nil, Option, Some, None, get_or, refl, sym, ap, ◌∙◌, subst, arith}
use Rattle.std.specs.Prelude.{◌⊎◌, IfOk, IfSome, IsSomeAnd, Result, if◌then◌else◌, is_some, option_map, slice_get}
use Rattle.std.proofs.lemmas.Bool.{le-ltb, lt-ltb}
use Rattle.std.proofs.lemmas.Option.{slice_get-map, slice_get_cases, slice_get_past}
use Rattle.hc_board.specs.Trail.{Access}
use Rattle.hc_value.specs.declared.memory.Memory.{Memory}
use Rattle.hc_value.specs.declared.reply.Reply.{Reply}
use Rattle.hc_value.specs.declared.reply.Reply.TheVariants.{Job, Fine, Finished, NoJob, NoRoom, NoSite}
use Rattle.hc_commands.specs.declared.command.Command.{Command}
use Rattle.hc_commands.specs.declared.command.Command.TheVariants.{Compile, Step, Finish}
use Rattle.hc_commands.specs.declared.command.Reads.{Reads as Asked}
use Rattle.hc_compiler.specs.Calls.{Starts, Steps}
use Rattle.hc_compiler.specs.Jobs.{Compiling, is_lent, open_count, opening_at}
use Rattle.hc_jobs.specs.Opened.{is_open}
use Rattle.hc_modes.specs.State.{ObjectsState}
use Rattle.hc_plan.specs.declared.case.Site.{Site}
use Rattle.hc_question.specs.declared.outcome.Outcome.{Outcome}
use Rattle.hc_report.specs.declared.line.Line.{Line}
use Rattle.hc_sites.specs.declared.state.SiteState.{SiteState}
use Rattle.hc_session.specs.Jobs.{HasFinished, Works, reads_for}
use Rattle.hc_deps.specs.declared.verdict.Verdict.{Verdict}
use Rattle.hc_session.specs.Plans.{HasSettled}
use Rattle.hc_session.specs.Plain.{compile_reply, has_room, is_accepted_job, is_of_jobs, is_opened}
use Rattle.hc_session.specs.Serving.{Attends, Serves, ServesJobs}
use Rattle.hc_session.specs.Standing.{jobs_of, plain_among}
use Rattle.hc_session.specs.Tables.{says}
use Rattle.hc_session.proofs.Working.{opened-count, opened-here}
use mathlib.Core.Logic.{inl, inr}

module _ {P : Type 0} (a : ObjectsState P) (sites : List SiteState) (c : Compiling) (log : List (ℕ × Line)) where
  -- Whether a site is there, and whether there is room

  site-there : (s : ℕ) (b : Bool) → is_some (slice_get sites s) ≡ b → is_some (slice_get (plain_among a sites c).sites s) ≡ b
  site-there s b is = ap (λ (x : Option Site). is_some x) (slice_get-map (λ (state : SiteState). state.site) sites s) ∙ (mapped (slice_get sites s) ∙ is)
    where
      mapped : (x : Option SiteState) → is_some (option_map (λ (state : SiteState). state.site) x) ≡ is_some x
      mapped (Some state) = refl
      mapped None = refl

  pub site-past : (s : ℕ) → length sites ≤ s → is_some (slice_get (plain_among a sites c).sites s) ≡ false
  site-past s le = site-there s false (ap (λ (x : Option SiteState). is_some x) (slice_get_past sites s le))

  pub room-none : (open_count c < 64 → ⊥) → has_room (jobs_of c) ≡ false
  room-none not = le-ltb (length (jobs_of c).opened) 64 (let le : 64 ≤ open_count c = grind (arith, not) in omega (arith, le, opened-count c))

  room-some : open_count c < 64 → has_room (jobs_of c) ≡ true
  room-some lt = lt-ltb (length (jobs_of c).opened) 64 (omega (arith, lt, opened-count c))

  -- A job for a site

  compile-by : (s : ℕ) (there room : Bool) → is_some (slice_get (plain_among a sites c).sites s) ≡ there → has_room (jobs_of c) ≡ room → compile_reply (plain_among a sites c) s ≡ (if there then (if room then Job c.started else NoRoom) else NoSite)
  compile-by s there room first second =
      ap (λ (x : Bool). if x then (if has_room (jobs_of c) then Job c.started else NoRoom) else NoSite) first ∙ ap (λ (x : Bool). if there then (if x then Job c.started else NoRoom) else NoSite) second

  accepted-by : (s : ℕ) (there room : Bool) → is_some (slice_get (plain_among a sites c).sites s) ≡ there → has_room (jobs_of c) ≡ room → is_accepted_job (plain_among a sites c) (Compile s) ≡ (there && room)
  accepted-by s there room first second = ap (λ (x : Bool). x && has_room (jobs_of c)) first ∙ ap (λ (x : Bool). there && x) second

  compile-refused : (s : ℕ) (reply : Reply) → compile_reply (plain_among a sites c) s ≡ reply → is_accepted_job (plain_among a sites c) (Compile s) ≡ false → ServesJobs a sites c log (Compile s) reply a sites c log
  compile-refused s reply replied not = record {
    of_jobs = refl;
    reply_is = ap (λ (r : Reply). Some (says r)) replied;
    lines = [];
    lines_are = sym (append-nil log);
    works = subst (λ (x : Bool). Works x a sites c (Compile s) a sites c []) (sym not) refl;
    refused = λ is. (refl, (refl, refl));
  }

  pub compile-nowhere : (s : ℕ) → length sites ≤ s → ServesJobs a sites c log (Compile s) NoSite a sites c log
  compile-nowhere s le = compile-refused s NoSite (compile-by s false (has_room (jobs_of c)) (site-past s le) refl) (accepted-by s false (has_room (jobs_of c)) (site-past s le) refl)

  site-within : (s : ℕ) → s < length sites → (state : SiteState) × (slice_get sites s ≡ Some state)
  site-within s lt = by (slice_get_cases sites s).1
    where
      by : ((x : SiteState) × (s < length sites) × (slice_get sites s ≡ Some x) × (get_or sites s x ≡ x)) ⊎ ((length sites ≤ s) × (slice_get sites s ≡ None)) → (state : SiteState) × (slice_get sites s ≡ Some state)
      by (inl h) = (h.0, h.2)
      by (inr h) = absurd (omega (arith, lt, h.0))

  within-there : (s : ℕ) → s < length sites → is_some (slice_get (plain_among a sites c).sites s) ≡ true
  within-there s lt = site-there s true (ap (λ (x : Option SiteState). is_some x) (site-within s lt).1)

  pub compile-full : (s : ℕ) → s < length sites → (open_count c < 64 → ⊥) → ServesJobs a sites c log (Compile s) NoRoom a sites c log
  compile-full s lt not = compile-refused s NoRoom (compile-by s true false (within-there s lt) (room-none not)) (accepted-by s true false (within-there s lt) (room-none not))

  pub compiled : (s number : ℕ) (b : ObjectsState P) (now : Compiling) → s < length sites → open_count c < 64 → number ≡ c.started → now.started ≡ c.started + 1 → IfSome (slice_get sites s) (λ state. Starts a c.jobs c.started s state now.jobs) → now.lent ≡ c.lent → b ≡ a
      → ServesJobs a sites c log (Compile s) (Job number) b sites now log
  compiled s number b now lt room is started starts lent same =
      let accepted = accepted-by s true true (within-there s lt) (room-some room) in
      let site = site-within s lt in
      record {
        of_jobs = refl;
        reply_is = ap (λ (r : Reply). Some (says r)) (compile-by s true true (within-there s lt) (room-some room) ∙ ap Job (sym is));
        lines = [];
        lines_are = sym (append-nil log);
        works = subst (λ (x : Bool). Works x a sites c (Compile s) b sites now []) (sym accepted)
            (record { state = site.0; site = site.1; starts = subst (λ (x : Option SiteState). IfSome x (λ state. Starts a c.jobs c.started s state now.jobs)) site.1 starts; started = started; lent = lent; same = same }, refl, refl);
        refused = λ not. let f : ⊥ = cc (accepted, not) in absurd f;
      }

  -- A job that is open, or not

  pub step-missing : (j : ℕ) (reads : Asked) → is_lent c.lent j ≡ false → is_open c.jobs j ≡ false → ServesJobs a sites c log (Step j reads) NoJob a sites c log
  step-missing j reads own not =
      let there : is_opened (jobs_of c).opened j ≡ false = opened-here c j own ∙ not in
      record {
        of_jobs = refl;
        reply_is = ap (λ (x : Bool). Some (says (if x then Fine else NoJob))) there;
        lines = [];
        lines_are = sym (append-nil log);
        works = subst (λ (x : Bool). Works x a sites c (Step j reads) a sites c []) (sym there) refl;
        refused = λ is. (refl, (refl, refl));
      }

  pub finish-missing : (j : ℕ) → is_lent c.lent j ≡ false → is_open c.jobs j ≡ false → ServesJobs a sites c log (Finish j) NoJob a sites c log
  finish-missing j own not =
      let there : is_opened (jobs_of c).opened j ≡ false = opened-here c j own ∙ not in
      record {
        of_jobs = refl;
        reply_is = ap (λ (x : Bool). Some (says (if x then Finished else NoJob))) there;
        lines = [];
        lines_are = sym (append-nil log);
        works = subst (λ (x : Bool). Works x a sites c (Finish j) a sites c []) (sym there) (refl, refl);
        refused = λ is. (refl, (refl, refl));
      }

  module _ (j : ℕ) (b : ObjectsState P) (now : Compiling) (own : is_lent c.lent j ≡ false) (opened : is_open c.jobs j ≡ true) (started : now.started ≡ c.started) (lent : now.lent ≡ c.lent) where
    there : is_opened (jobs_of c).opened j ≡ true
    there = opened-here c j own ∙ opened

    pub stepped : (reads : Asked) → Steps (reads_for reads) a c.jobs j b now.jobs → ServesJobs a sites c log (Step j reads) Fine b sites now log
    stepped reads steps = record {
      of_jobs = refl;
      reply_is = ap (λ (x : Bool). Some (says (if x then Fine else NoJob))) there;
      lines = [];
      lines_are = sym (append-nil log);
      works = subst (λ (x : Bool). Works x a sites c (Step j reads) b sites now []) (sym there) (record { steps = steps; started = started; lent = lent }, refl, refl);
      refused = λ not. let f : ⊥ = cc (there, not) in absurd f;
    }

    pub ended : (outcome : Outcome) (verdict : Verdict) (sites_now : List SiteState) (lines log_now : List (ℕ × Line)) → HasFinished a c j outcome b now → IsSomeAnd (opening_at c.jobs j) (λ given. HasSettled a sites given j outcome verdict b sites_now lines)
        → log_now ≡ log ++ lines → ServesJobs a sites c log (Finish j) Finished b sites_now now log_now
    ended outcome verdict sites_now lines log_now finished settled is = record {
      of_jobs = refl;
      reply_is = ap (λ (x : Bool). Some (says (if x then Finished else NoJob))) there;
      lines = lines;
      lines_are = is;
      works = subst (λ (x : Bool). Works x a sites c (Finish j) b sites_now now lines) (sym there) (outcome, verdict, finished, settled);
      refused = λ not. let f : ⊥ = cc (there, not) in absurd f;
    }

-- By results

module _ {P : Type 0} (went : P → List Access → List Access → P → Type 0) (a b : ObjectsState P) (sites now : List SiteState) (c later : Compiling) (log log_now : List (ℕ × Line)) (command : Command) where
  pub ok-jobs : (r : Result Reply Memory) → IfOk r (λ reply. ServesJobs a sites c log command reply b now later log_now) → IfOk r (λ reply. Attends went a sites c log command reply b now later log_now)
  ok-jobs (Ok reply) serves = inr serves
  ok-jobs (Err fault) serves = tt

  pub ok-beside : (r : Result Reply Memory) → is_of_jobs command ≡ false → later ≡ c → IfOk r (λ reply. Serves went a sites log command reply b now log_now) → IfOk r (λ reply. Attends went a sites c log command reply b now later log_now)
  ok-beside (Ok reply) not same serves = inl (record { not_of_jobs = not; serves = serves; compiler_is = same })
  ok-beside (Err fault) not same serves = tt
