-- A job's outcome is settled.
use Rattle.std.proofs.Common.{◌≡◌, ℕ, zero, suc, ◌<◌, length, arith, Bool, true, false, Option, Some, None, List, [], ◌∷◌, ◌++◌, map, refl, sym, ap, ◌∙◌, subst}
use Rattle.std.specs.Prelude.{◌⊎◌, IsSome, IsSomeAnd, is_some, option_map, slice_get}
use Rattle.std.proofs.lemmas.Option.{slice_get-map}
use Rattle.hc_access.specs.Laws.{events-sites}
use Rattle.hc_board.specs.Parts.{reads_of}
use Rattle.hc_board.specs.States.{beginning, counted, entry_of, position_of, reads_made, words_of}
use Rattle.hc_board.specs.Steps.{newest}
use Rattle.hc_board.specs.Trail.{Access}
use Rattle.hc_board.specs.Parts.{MetEntry}
use Rattle.hc_compiler.specs.Batches.{entry_with}
use Rattle.hc_compiler.specs.Calls.{Finishes}
use Rattle.hc_compiler.specs.Ends.{EndsWith, HasEnded}
use Rattle.hc_compiler.specs.Jobs.{AreReading, IsReading, Compiling, Opening, opening_at, opening_of}
use Rattle.hc_deps.specs.Verdicts.{sites_after}
use Rattle.hc_deps.specs.declared.verdict.Verdict.{Verdict}
use Rattle.hc_deps.specs.declared.verdict.Verdict.TheVariants.{Installed, Refused, NoPlan as NoVerdict}
use Rattle.hc_heap.specs.States.{IsDesk, IsHeap}
use Rattle.hc_installed.specs.Installed.{AreInstalled}
use Rattle.hc_installed.specs.Laws.{IsOutcomeOf, OutcomesStayInstalled, RefusedHadHeld, RestIsNow}
use Rattle.hc_installed.specs.Settles.{IsOutcomeAt, verdict_line}
use Rattle.hc_jobs.specs.Opened.{is_open, open_at}
use Rattle.hc_jobs.specs.declared.table.OpenJob.{OpenJob}
use Rattle.hc_modes.specs.State.{ObjectsState}
use Rattle.hc_objects.specs.Came.{IsStill}
use Rattle.hc_plan.specs.declared.case.Site.{Site}
use Rattle.hc_planner.specs.Jobs.{asks}
use Rattle.hc_question.specs.declared.outcome.Outcome.{Outcome}
use Rattle.hc_question.specs.declared.outcome.Outcome.TheVariants.{Planned, NoPlan}
use Rattle.hc_report.specs.declared.line.Line.{Line}
use Rattle.hc_sites.specs.Events.{installed}
use Rattle.hc_sites.specs.declared.state.SiteState.{SiteState}
use Rattle.hc_soundness.specs.Rest.{IsRest}
use Rattle.hc_commands.specs.declared.command.Command.{Command}
use Rattle.hc_commands.specs.declared.command.Command.TheVariants.{Declare, Finish}
use Rattle.hc_access.specs.Entries.{AreGood, IsGoodEntry}
use Rattle.hc_answers.specs.Laws.{AreWritten}
use Rattle.hc_heap.specs.Writes.{Trail}
use Rattle.hc_plan.specs.declared.plan.Plan.{Plan}
use Rattle.hc_sites.specs.State.{after_event, with_event}
use Rattle.hc_slots.specs.Cases.{some-is}
use Rattle.hc_value.specs.declared.reply.Reply.{Reply}
use Rattle.hc_session.specs.Jobs.{AreSeen, HasFinished, HaveMet, Works}
use Rattle.hc_session.specs.Serving.{AreNamedSites, ServesJobs}
use Rattle.hc_session.specs.Standing.{plain_among}
use Rattle.hc_session.specs.Plain.{is_accepted_job, sites_after as sites_later}
use mathlib.Core.Logic.{inl, inr}
use Rattle.hc_session.specs.Plans.{ArePlanned, AreSitesOf, HadHeld, HasRested, HasSettled}
use Rattle.hc_session.proofs.Readers.{met-batch, met-by}
use Rattle.hc_session.proofs.Rested.{Rests, batch-reads, batch-rests, each-but, met-installed, met-rested, newest-two, rests-met, some-one}

-- Jobs are those of sites that do the same

sites-and : (o : Option SiteState) (what : Site) → option_map (λ (x : SiteState). x.site) o ≡ Some what → IsSomeAnd o (λ (x : SiteState). x.site ≡ what)
sites-and (Some x) what is = ap (λ (p : Option Site). site_or what p) is
  where
    site_or : Site → Option Site → Site
    site_or other (Some site) = site
    site_or other None = other
sites-and None what is = let f : ⊥ = cc in absurd f

and-sites : (o : Option SiteState) (what : Site) → IsSomeAnd o (λ (x : SiteState). x.site ≡ what) → option_map (λ (x : SiteState). x.site) o ≡ Some what
and-sites (Some x) what is = ap Some is
and-sites None what is = absurd is

pub sites-of-same : (xs ys : List SiteState) (jobs : List OpenJob) → map (λ (x : SiteState). x.site) xs ≡ map (λ (x : SiteState). x.site) ys → AreSitesOf ys jobs → AreSitesOf xs jobs
sites-of-same xs ys jobs same opened j x is =
    sites-and (slice_get xs x.job.site) x.job.what
    (sym (slice_get-map (λ (y : SiteState). y.site) xs x.job.site)
    ∙ (ap (λ (zs : List Site). slice_get zs x.job.site) same
    ∙ (slice_get-map (λ (y : SiteState). y.site) ys x.job.site ∙ and-sites (slice_get ys x.job.site) x.job.what (opened j x is))))

-- and so are those of one site more
sites-front : (xs ys : List Site) (what : Site) (n : ℕ) → slice_get xs n ≡ Some what → slice_get (xs ++ ys) n ≡ Some what
sites-front [] ys what n is = let f : ⊥ = cc in absurd f
sites-front (x ∷ xs) ys what zero is = is
sites-front (x ∷ xs) ys what (suc n) is = sites-front xs ys what n is

sites-later : (sites : List Site) (command : Command) (what : Site) (n : ℕ) → slice_get sites n ≡ Some what → slice_get (sites_later sites command) n ≡ Some what
sites-later sites (Declare op name) what n is = sites-front sites (record { op = op; name = name } ∷ []) what n is
sites-later sites command what n is = is

pub sites-grow : (sites now : List SiteState) (jobs : List OpenJob) (command : Command) → (map (λ (x : SiteState). x.site) now ≡ sites_later (map (λ (x : SiteState). x.site) sites) command) ⊎ (map (λ (x : SiteState). x.site) now ≡ map (λ (x : SiteState). x.site) sites) → AreSitesOf sites jobs → AreSitesOf now jobs
sites-grow sites now jobs command (inr same) opened = sites-of-same now sites jobs same opened
sites-grow sites now jobs command (inl grown) opened = λ j x is.
    sites-and (slice_get now x.job.site) x.job.what
    (sym (slice_get-map (λ (y : SiteState). y.site) now x.job.site)
    ∙ (ap (λ (zs : List Site). slice_get zs x.job.site) grown
    ∙ sites-later (map (λ (y : SiteState). y.site) sites) command x.job.what x.job.site
    (slice_get-map (λ (y : SiteState). y.site) sites x.job.site ∙ and-sites (slice_get sites x.job.site) x.job.what (opened j x is))))

pub settled-same : (sites : List SiteState) (site : ℕ) (outcome : Outcome) (verdict : Verdict) → map (λ (x : SiteState). x.site) (sites_after sites site outcome verdict) ≡ map (λ (x : SiteState). x.site) sites
settled-same sites site (Planned plan) Installed = events-sites sites site (installed plan ∷ [])
settled-same sites site (Planned plan) (Refused dep) = refl
settled-same sites site (Planned plan) (NoVerdict why) = refl
settled-same sites site (NoPlan why) verdict = refl

and-within : (sites : List SiteState) (n : ℕ) (Q : SiteState → Type 0) → IsSomeAnd (slice_get sites n) Q → n < length sites
and-within [] n Q h = absurd h
and-within (x ∷ xs) zero Q h = omega arith
and-within (x ∷ xs) (suc n) Q h = omega (arith, and-within xs n Q h)

-- What a refused dependency is told

ends-still : {P : Type 0} (a b : ObjectsState P) (given : Opening) (outcome : Outcome) → IsStill a b → EndsWith a given (newest a.heap.desk.met) outcome → EndsWith b given (newest b.heap.desk.met) outcome
ends-still {P} a b given outcome still ends =
    subst (λ (s : ObjectsState P). EndsWith s given (newest s.heap.desk.met) outcome) (sym still.is) (record { start = ends.start; fits = ends.fits; told = ends.told })

some-map : {T : Type 0} (Q R : T → Type 0) (o : Option T) → ((x : T) → Q x → R x) → IsSomeAnd o Q → IsSomeAnd o R
some-map {T} Q R (Some x) f h = f x h
some-map {T} Q R None f h = absurd h

had-still : {P : Type 0} (a b : ObjectsState P) (start : ℕ) (verdict : Verdict) → IsStill a b → HadHeld a start verdict → HadHeld b start verdict
had-still {P} a b start Installed still had = tt
had-still {P} a b start (NoVerdict why) still had = tt
had-still {P} a b start (Refused dep) still had =
    subst (λ (s : ObjectsState P). HadHeld s start (Refused dep)) (sym still.is) (record { moment = had.moment; since = had.since; upto = had.upto; held = had.held })

module _ {P : Type 0} (a mid b : ObjectsState P) (jobs later : List OpenJob) (j : ℕ) (finishes : Finishes a jobs j mid later) (still : IsStill mid b) where
  met : HaveMet a mid
  met = met-batch a mid _ finishes.batch.objects

  pub finish-met : HaveMet a b
  finish-met = (entry_of finishes.x.reader (position_of a.heap.desk) ∷ entry_with finishes.x.reader (position_of a.heap.desk) finishes.made ∷ [], subst (λ (s : ObjectsState P). IsStill s b) finishes.batch.objects still)

  opens : opening_at jobs j ≡ Some (opening_of finishes.x)
  opens = ap (λ (o : Option OpenJob). option_map opening_of o) finishes.was

  newest-is : newest mid.heap.desk.met ≡ entry_with finishes.x.reader (position_of a.heap.desk) finishes.made
  newest-is =
      ap (λ (s : ObjectsState P). newest s.heap.desk.met) finishes.batch.objects
      ∙ newest-two a.heap.desk.met (entry_of finishes.x.reader (position_of a.heap.desk)) (entry_with finishes.x.reader (position_of a.heap.desk) finishes.made)

  -- the reads of the job are words of a rest
  ended-rests : RestIsNow → IsRest a.heap.view a.kept → IsDesk a.heap.view a.heap.desk → AreReading a jobs → HasRested a finishes.x → Rests mid (beginning finishes.x.reader) (reads_of (newest mid.heap.desk.met))
  ended-rests law rest desk reading rested =
      let x = finishes.x in
      let here = batch-rests a law rest desk x finishes.made (asks finishes.job) (reading j x finishes.was).start rested finishes.batch.leads finishes.batch.words in
      let there = met-by a mid (λ (s : ObjectsState P). Rests s (beginning x.reader) (reads_made x.reader ++ finishes.made)) (λ entries n. rests-met a entries n (beginning x.reader) (reads_made x.reader ++ finishes.made) here) met in
      subst (λ (xs : List Access). Rests mid (beginning x.reader) xs) (sym (ap (λ (e : MetEntry). reads_of e) newest-is ∙ batch-reads x.reader (position_of a.heap.desk) finishes.made)) there

  module _ (sites : List SiteState) (outcome : Outcome) (verdict : Verdict) (ended : HasEnded jobs j outcome mid) (is : IsOutcomeAt mid outcome verdict) where
    ends : EndsWith mid (opening_of finishes.x) (newest mid.heap.desk.met) outcome
    ends = some-one (λ (given : Opening). EndsWith mid given (newest mid.heap.desk.met) outcome) (opening_at jobs j) (opening_of finishes.x) ended opens

    told : IsOutcomeOf mid.heap.view mid.heap.desk finishes.x.job.site finishes.x.job.what (reads_of (newest mid.heap.desk.met)) outcome
    told = record { maps = finishes.x.job.maps; mega = finishes.x.job.mega; told = ends.told }

    had-held : RefusedHadHeld → IsHeap mid.heap.view → IsDesk mid.heap.view mid.heap.desk → Rests mid (beginning finishes.x.reader) (reads_of (newest mid.heap.desk.met)) → (other : Verdict) → IsOutcomeAt mid outcome other → HadHeld mid (beginning finishes.x.reader) other
    had-held law heap desk rests Installed was = tt
    had-held law heap desk rests (NoVerdict why) was = tt
    had-held law heap desk rests (Refused dep) was = record {
      moment = rests.position;
      since = rests.since;
      upto = rests.upto;
      held = law mid.heap.view mid.heap.desk (beginning finishes.x.reader) finishes.x.job.site finishes.x.job.what (reads_of (newest mid.heap.desk.met)) outcome dep heap desk rests told was;
    }

    -- it is settled
    pub finish-settled : RestIsNow → RefusedHadHeld → IsRest a.heap.view a.kept → IsDesk a.heap.view a.heap.desk → IsHeap mid.heap.view → IsDesk mid.heap.view mid.heap.desk → AreReading a jobs → HasRested a finishes.x
        → (at site : ℕ) (sites_now : List SiteState) → at ≡ counted (position_of a.heap.desk) → IsSomeAnd (opening_at jobs j) (λ given. site ≡ given.site) → sites_now ≡ sites_after sites site outcome verdict
        → IsSomeAnd (opening_at jobs j) (λ given. HasSettled a sites given j outcome verdict b sites_now ((at, verdict_line j site verdict) ∷ []))
    finish-settled rests refused rest desk heap desk_now reading rested at site sites_now here there sited =
        let site_is : site ≡ finishes.x.job.site = some-one (λ (given : Opening). site ≡ given.site) (opening_at jobs j) (opening_of finishes.x) there opens in
        subst (λ (o : Option Opening). IsSomeAnd o (λ given. HasSettled a sites given j outcome verdict b sites_now ((at, verdict_line j site verdict) ∷ []))) (sym opens)
        (record {
          verdict_is = subst (λ (s : ObjectsState P). IsOutcomeAt s outcome verdict) (sym still.is) is;
          sites_are = sited ∙ ap (λ (n : ℕ). sites_after sites n outcome verdict) site_is;
          held = had-still mid b (beginning finishes.x.reader) verdict still (had-held refused heap desk_now (ended-rests rests rest desk reading rested) verdict is);
          lines_are = ap (λ (n : ℕ). (n, verdict_line j site verdict) ∷ []) here ∙ ap (λ (n : ℕ). (counted (position_of a.heap.desk), verdict_line j n verdict) ∷ []) site_is;
        })

    pub finish-done : (c now : Compiling) → jobs ≡ c.jobs → later ≡ now.jobs → now.started ≡ c.started → now.lent ≡ c.lent → HasFinished a c j outcome b now
    finish-done c now same same_now started lent = record {
      met = mid;
      finishes = subst (λ (xs : List OpenJob). Finishes a xs j mid now.jobs) same (subst (λ (xs : List OpenJob). Finishes a jobs j mid xs) same_now finishes);
      looked = still;
      ended = subst (λ (xs : List OpenJob). HasEnded xs j outcome b) same (some-map _ _ (opening_at jobs j) (λ given h. ends-still mid b given outcome still h) ended);
      started = started;
      lent = lent;
    }

    -- and plans are borne still
    pub finish-planned : OutcomesStayInstalled → IsRest a.heap.view a.kept → IsDesk mid.heap.view mid.heap.desk → AreSitesOf sites jobs → ArePlanned a sites jobs → (site : ℕ) → IsSomeAnd (opening_at jobs j) (λ given. site ≡ given.site) → ArePlanned b (sites_after sites site outcome verdict) later
    finish-planned law rest desk opened planned site there =
        let x = finishes.x in
        let site_is : site ≡ x.job.site = some-one (λ (given : Opening). site ≡ given.site) (opening_at jobs j) (opening_of x) there opens in
        let rest_now = met-by a mid (λ (s : ObjectsState P). IsRest s.heap.view s.kept) (λ entries n. rest) met in
        let here = law mid.heap.view mid.heap.desk mid.kept sites x.job.site x.job.what (newest mid.heap.desk.met) outcome verdict rest_now desk ends.fits told (opened j x finishes.was) is (met-installed a mid sites met planned.installed) in
        record {
          installed = subst (λ (s : ObjectsState P). AreInstalled s.heap.view.shape s.heap.view.trail (sites_after sites site outcome verdict)) (sym still.is)
              (subst (λ (n : ℕ). AreInstalled mid.heap.view.shape mid.heap.view.trail (sites_after sites n outcome verdict)) (sym site_is) here);
          resting = each-but (HasRested a) (HasRested b) jobs later j finishes.others (λ y h. met-rested a b y finish-met h) (λ y is_there. gone y is_there) planned.resting;
        }
      where
        gone : (y : OpenJob) → open_at later j ≡ Some y → HasRested b y
        gone y is_there = let f : ⊥ = cc (finishes.gone, ap (λ (o : Option OpenJob). is_some o) is_there) in absurd f

  -- the other jobs read on
  pub finish-reading : AreReading mid later → AreReading b later
  finish-reading reading k x is =
      let h = reading k x is in
      subst (λ (s : ObjectsState P). IsReading s x) (sym still.is) (record { shape = h.shape; board = h.board; start = h.start; written = h.written })

  -- its site is there
  pub finish-there : (sites : List SiteState) (site : ℕ) → AreSitesOf sites jobs → IsSomeAnd (opening_at jobs j) (λ given. site ≡ given.site) → site < length sites
  finish-there sites site opened there =
      let site_is : site ≡ finishes.x.job.site = some-one (λ (given : Opening). site ≡ given.site) (opening_at jobs j) (opening_of finishes.x) there opens in
      subst (λ (n : ℕ). n < length sites) (sym site_is) (and-within sites finishes.x.job.site _ (opened j finishes.x finishes.was))

  pub finish-opened : (sites sites_now : List SiteState) → map (λ (x : SiteState). x.site) sites_now ≡ map (λ (x : SiteState). x.site) sites → AreSitesOf sites jobs → AreSitesOf sites_now later
  finish-opened sites sites_now same opened =
      sites-of-same sites_now sites later same (each-but IsOf IsOf jobs later j finishes.others (λ x h. h) gone opened)
    where
      IsOf : OpenJob → Type 0
      IsOf x = IsSomeAnd (slice_get sites x.job.site) (λ (z : SiteState). z.site ≡ x.job.what)

      gone : (y : OpenJob) → open_at later j ≡ Some y → IsOf y
      gone y is_there = let f : ⊥ = cc (finishes.gone, ap (λ (o : Option OpenJob). is_some o) is_there) in absurd f

-- What is so of sites whose outcome is settled

installed-state : (sites : List SiteState) (s : ℕ) (plan : Plan) (n : ℕ) (y : SiteState) → slice_get (with_event sites s (installed plan)) n ≡ Some y → (x : SiteState) × (slice_get sites n ≡ Some x) × ((y.site ≡ x.site) × ((y.cache ≡ x.cache) × (y.maps ≡ x.maps)))
installed-state [] s plan n y is = let f : ⊥ = cc in absurd f
installed-state (x ∷ xs) zero plan zero y is =
    (x, refl, subst (λ (z : SiteState). (z.site ≡ x.site) × ((z.cache ≡ x.cache) × (z.maps ≡ x.maps))) (some-is (after_event x (installed plan)) y is) (refl, (refl, refl)))
installed-state (x ∷ xs) zero plan (suc n) y is = (y, is, (refl, (refl, refl)))
installed-state (x ∷ xs) (suc s) plan zero y is = (y, is, (refl, (refl, refl)))
installed-state (x ∷ xs) (suc s) plan (suc n) y is = installed-state xs s plan n y is

settled-good : {P : Type 0} (a : ObjectsState P) (sites : List SiteState) (site : ℕ) (outcome : Outcome) (verdict : Verdict) → AreGood a sites → AreGood a (sites_after sites site outcome verdict)
settled-good {P} a sites site (Planned plan) Installed good = λ n y entry here cached.
    let x = installed-state sites site plan n y here in
    subst (λ (what : Site). IsGoodEntry a what entry) (sym x.2.0) (good n x.0 entry x.1 (sym x.2.1.0 ∙ cached))
settled-good {P} a sites site (Planned plan) (Refused dep) good = good
settled-good {P} a sites site (Planned plan) (NoVerdict why) good = good
settled-good {P} a sites site (NoPlan why) verdict good = good

settled-seen : (t : Trail) (sites : List SiteState) (site : ℕ) (outcome : Outcome) (verdict : Verdict) → AreSeen t sites → AreSeen t (sites_after sites site outcome verdict)
settled-seen t sites site (Planned plan) Installed seen = λ n y here.
    let x = installed-state sites site plan n y here in
    subst (λ (maps : List ℕ). AreWritten t maps) (sym x.2.1.1) (seen n x.0 x.1)
settled-seen t sites site (Planned plan) (Refused dep) seen = seen
settled-seen t sites site (Planned plan) (NoVerdict why) seen = seen
settled-seen t sites site (NoPlan why) verdict seen = seen

module _ {P : Type 0} (a : ObjectsState P) (sites : List SiteState) (c : Compiling) (log : List (ℕ × Line)) (j : ℕ) (reply : Reply) (b : ObjectsState P) (now : List SiteState) (later : Compiling) (log_now : List (ℕ × Line)) (serves : ServesJobs a sites c log (Finish j) reply b now later log_now) where
  -- whatever holds of sites whatever is settled
  served-by : (K : List SiteState → Type 0) → K sites → ((site : ℕ) (outcome : Outcome) (verdict : Verdict) → K (sites_after sites site outcome verdict)) → K now
  served-by K same settled = by (is_accepted_job (plain_among a sites c) (Finish j)) serves.works
    where
      given : (outcome : Outcome) (verdict : Verdict) (o : Option Opening) → IsSomeAnd o (λ given. HasSettled a sites given j outcome verdict b now serves.lines) → K now
      given outcome verdict None h = absurd h
      given outcome verdict (Some x) h = subst K (sym h.sites_are) (settled x.site outcome verdict)

      by : (accepted : Bool) → Works accepted a sites c (Finish j) b now later serves.lines → K now
      by true works = given works.0 works.1 (opening_at c.jobs j) works.3
      by false works = subst K (sym works.1) same

  pub served-names : (count : ℕ) → AreNamedSites count (map (λ (x : SiteState). x.site) sites) → AreNamedSites count (map (λ (x : SiteState). x.site) now)
  served-names count named =
      served-by (λ (xs : List SiteState). AreNamedSites count (map (λ (x : SiteState). x.site) xs)) named
      (λ site outcome verdict. subst (AreNamedSites count) (sym (settled-same sites site outcome verdict)) named)

  pub served-good : AreGood b sites → AreGood b now
  served-good good = served-by (λ (xs : List SiteState). AreGood b xs) good (λ site outcome verdict. settled-good b sites site outcome verdict good)

  pub served-seen : AreSeen b.heap.view.trail sites → AreSeen b.heap.view.trail now
  served-seen seen = served-by (λ (xs : List SiteState). AreSeen b.heap.view.trail xs) seen (λ site outcome verdict. settled-seen b.heap.view.trail sites site outcome verdict seen)
