-- Open jobs read at rest, and are those of sites that are there.
use Rattle.std.proofs.Common.{◌≡◌, ◌≢◌, ℕ, zero, suc, ◌<◌, ◌≤◌, Bool, Ok, Err, true, false, eqb, eqb-true, Option, Some, None, List, [], ◌∷◌, ◌++◌, length, append-nil, append_assoc, refl, sym, ap, ◌∙◌, subst, arith}
use Rattle.std.specs.Prelude.{IfSome, OnOk, Result, IsSomeAnd, option_map, slice_get}
use Rattle.hc_board.specs.Fits.{AreOf}
use Rattle.hc_board.specs.Parts.{MetEntry, Part, reads_of, start_of}
use Rattle.hc_board.specs.States.{ReaderState, beginning, entry_of, new_reader, position_of, reads_made}
use Rattle.hc_board.specs.Steps.{newest}
use Rattle.hc_board.specs.Trail.{Access}
use Rattle.hc_compiler.specs.Batches.{after_batch, entry_with, part_at}
use Rattle.hc_compiler.specs.Calls.{Finishes, IsNewJob, Starts, Steps}
use Rattle.hc_board.specs.States.{TableId}
use Rattle.hc_compiler.specs.Jobs.{AreReading, Opening, OthersStay, opening_of}
use Rattle.hc_slots.specs.Cases.{some-is}
use Rattle.hc_heap.specs.States.{Goes, IsDesk}
use Rattle.hc_installed.specs.Installed.{AreInstalled, AreResting}
use Rattle.hc_installed.specs.Laws.{RestIsNow, RestingStays}
use Rattle.hc_jobs.specs.Opened.{open_at}
use Rattle.hc_jobs.specs.declared.reads.Reads.{Reads}
use Rattle.hc_jobs.specs.declared.reads.Reads.TheVariants.{All}
use Rattle.hc_jobs.specs.declared.table.OpenJob.{OpenJob}
use Rattle.hc_layout.specs.declared.shape.Shape.{Shape}
use Rattle.hc_modes.specs.State.{ObjectsState}
use Rattle.hc_plan.specs.declared.case.Site.{Site}
use Rattle.hc_planner.specs.Jobs.{JobState, asks, is_done}
use Rattle.hc_question.specs.Ask.{Ask, look, tell, stop, IsAnswer, LeadsTo}
use Rattle.hc_sites.specs.declared.state.SiteState.{SiteState}
use Rattle.hc_value.specs.declared.memory.Memory.{Memory}
use Rattle.hc_value.specs.declared.reply.Reply.{Reply}
use Rattle.hc_soundness.specs.Rest.{IsRest}
use Rattle.hc_session.specs.Jobs.{HaveMet}
use Rattle.hc_session.specs.Plans.{ArePlanned, AreSitesOf, HasRested}
use Rattle.hc_session.proofs.Readers.{looked_at, met-batch, met-by}
use mathlib.Core.Logic.{inl, inr}

-- Each open job

-- what holds of each, where one became another, or none
pub each-but : (Q R : OpenJob → Type 0) (jobs later : List OpenJob) (k : ℕ) → OthersStay jobs later k → ((x : OpenJob) → Q x → R x) → ((x : OpenJob) → open_at later k ≡ Some x → R x)
    → ((j : ℕ) (x : OpenJob) → open_at jobs j ≡ Some x → Q x) → (j : ℕ) (x : OpenJob) → open_at later j ≡ Some x → R x
each-but Q R jobs later k others weaker new each j x is = by (eqb j k) refl
  where
    by : (test : Bool) → eqb j k ≡ test → R x
    by true same = new x (subst (λ (n : ℕ). open_at later n ≡ Some x) (eqb-true j k same) is)
    by false differ = let apart : j ≢ k = grind (arith, differ) in weaker x (each j x (sym (others j apart) ∙ is))

-- one that is there is that one
pub some-one : {T : Type 0} (Q : T → Type 0) (o : Option T) (x : T) → IsSomeAnd o Q → o ≡ Some x → Q x
some-one {T} Q o x h is = subst (λ (p : Option T). IsSomeAnd p Q) is h

-- Rest

done-none : (s : Shape) (before after : Ask) (reads : List Access) → is_done before ≡ true → LeadsTo s before reads after → reads ≡ []
unfolding is_done LeadsTo IsAnswer
done-none s before after [] done leads = refl
done-none s (tell cases skips) after (read ∷ reads) done leads = absurd leads.0
done-none s stop after (read ∷ reads) done leads = absurd leads.0
done-none s (look kind item next) after (read ∷ reads) done leads = absurd (cc)

reads-append : (xs ys : MetEntry) → reads_of (xs ++ ys) ≡ reads_of xs ++ reads_of ys
unfolding reads_of
reads-append [] ys = refl
reads-append (x ∷ xs) ys = ap (λ (rest : List Access). x.reads ++ rest) (reads-append xs ys) ∙ sym (append_assoc x.reads (reads_of xs) (reads_of ys))

reads-one : (begin : ℕ) (reads : List Access) (end : ℕ) → reads_of (record { begin = begin; reads = reads; end = end } ∷ []) ≡ reads
unfolding reads_of
reads-one begin reads end = append-nil reads

-- the reads of a batch come behind those that were made
pub batch-reads : (r : ReaderState) (position : ℕ) (made : List Access) → reads_of (entry_with r position made) ≡ reads_made r ++ made
batch-reads r position made =
    reads-append (entry_of r position) (part_at position made ∷ [])
    ∙ (ap (λ (xs : List Access). reads_of (entry_of r position) ++ xs) (reads-one position made position)
    ∙ ap (λ (xs : List Access). xs ++ made) (reads-append r.parts (record { begin = r.begin; reads = r.last; end = position } ∷ []) ∙ ap (λ (xs : List Access). reads_of r.parts ++ xs) (reads-one r.begin r.last position)))

-- and it began where it began
start-behind : (parts : MetEntry) (begin now : ℕ) (reads : List Access) (position : ℕ) (rest : MetEntry) → start_of ((parts ++ record { begin = begin; reads = reads; end = position } ∷ []) ++ rest) now ≡ start_of parts begin
unfolding start_of
start-behind [] begin now reads position rest = refl
start-behind (part ∷ parts) begin now reads position rest = refl

none-made : (board : TableId) (position : ℕ) → reads_made (new_reader board position) ≡ []
unfolding reads_of
none-made board position = refl

-- the entry that was met last
pub newest-two : (met : List MetEntry) (x y : MetEntry) → newest (met ++ x ∷ y ∷ []) ≡ y
unfolding newest
newest-two [] x y = refl
newest-two (e ∷ []) x y = refl
newest-two (e ∷ next ∷ rest) x y = newest-two (next ∷ rest) x y

-- reads that are words of a rest
abbrev pub Rests : {P : Type 0} → ObjectsState P → ℕ → List Access → Type 0
Rests a start reads = AreResting a.heap.view a.heap.desk start reads

pub rests-met : {P : Type 0} (a : ObjectsState P) (entries : List MetEntry) (n start : ℕ) (reads : List Access) → Rests a start reads → Rests (looked_at a entries n) start reads
rests-met {P} a entries n start reads h = record { position = h.position; since = h.since; upto = h.upto; are = h.are; rest = h.rest }

module _ {P : Type 0} (a : ObjectsState P) (law : RestIsNow) (rest : IsRest a.heap.view a.kept) (desk : IsDesk a.heap.view a.heap.desk) where
  -- all that a job has read, once it made the reads that were left
  pub batch-rests : (x : OpenJob) (made : List Access) (after : Ask) → beginning x.reader ≤ length a.heap.desk.trail → HasRested a x → LeadsTo x.job.shape (asks x.job) made after → AreOf a.heap.desk.board.words a.heap.desk.trail (position_of a.heap.desk) made → Rests a (beginning x.reader) (reads_made x.reader ++ made)
  batch-rests x made after le (inl none) leads words =
      subst (λ (xs : List Access). Rests a (beginning x.reader) (xs ++ made)) (sym none) (law a.heap.view a.heap.desk a.kept (beginning x.reader) made rest desk le words)
  batch-rests x made after le (inr rested) leads words =
      subst (λ (xs : List Access). Rests a (beginning x.reader) (reads_made x.reader ++ xs)) (sym (done-none x.job.shape (asks x.job) after made rested.0 leads))
      (subst (λ (xs : List Access). Rests a (beginning x.reader) xs) (sym (append-nil (reads_made x.reader))) rested.1)

-- where only readers were met, jobs rested as they did
pub met-rested : {P : Type 0} (a b : ObjectsState P) (x : OpenJob) → HaveMet a b → HasRested a x → HasRested b x
met-rested {P} a b x met (inl none) = inl none
met-rested {P} a b x met (inr rested) = inr (rested.0, met-by a b (λ (s : ObjectsState P). Rests s (beginning x.reader) (reads_made x.reader)) (λ entries n. rests-met a entries n (beginning x.reader) (reads_made x.reader) rested.1) met)

pub met-installed : {P : Type 0} (a b : ObjectsState P) (sites : List SiteState) → HaveMet a b → AreInstalled a.heap.view.shape a.heap.view.trail sites → AreInstalled b.heap.view.shape b.heap.view.trail sites
met-installed {P} a b sites met installed = met-by a b (λ (s : ObjectsState P). AreInstalled s.heap.view.shape s.heap.view.trail sites) (λ entries n. installed) met

-- Commands of jobs

-- a job that was started made no read
pub started-planned : {P : Type 0} (a : ObjectsState P) (sites : List SiteState) (jobs later : List OpenJob) (k s : ℕ) (state : SiteState) → Starts a jobs k s state later → ArePlanned a sites jobs → ArePlanned a sites later
started-planned {P} a sites jobs later k s state starts planned = record {
  installed = planned.installed;
  resting = each-but (HasRested a) (HasRested a) jobs later k starts.others (λ x h. h)
      (λ x is. inl (ap (λ (r : ReaderState). reads_made r) (some-one (IsNewJob a k s state) (open_at later k) x starts.now is).reader ∙ none-made a.heap.desk.board (position_of a.heap.desk))) planned.resting;
}

-- and is one of its site
pub started-opened : {P : Type 0} (a : ObjectsState P) (sites : List SiteState) (jobs later : List OpenJob) (k s : ℕ) (state : SiteState) → slice_get sites s ≡ Some state → Starts a jobs k s state later → AreSitesOf sites jobs → AreSitesOf sites later
started-opened {P} a sites jobs later k s state here starts opened =
    each-but IsOf IsOf jobs later k starts.others (λ x h. h) (λ x is. new x (some-one (IsNewJob a k s state) (open_at later k) x starts.now is).given) opened
  where
    IsOf : OpenJob → Type 0
    IsOf x = IsSomeAnd (slice_get sites x.job.site) (λ (y : SiteState). y.site ≡ x.job.what)

    new : (x : OpenJob) → opening_of x ≡ record { job = k; site = s; what = state.site; maps = state.maps; mega = state.mega; start = position_of a.heap.desk } → IsOf x
    new x given =
        subst (λ (n : ℕ). IsSomeAnd (slice_get sites n) (λ (y : SiteState). y.site ≡ x.job.what)) (sym (ap (λ (g : Opening). g.site) given))
        (subst (λ (o : Option SiteState). IsSomeAnd o (λ (y : SiteState). y.site ≡ x.job.what)) (sym here) (sym (ap (λ (g : Opening). g.what) given)))

-- so where the call says
pub some-here : {T : Type 0} (xs : List T) (n : ℕ) → n < length xs → (x : T) × (slice_get xs n ≡ Some x)
some-here {T} [] n lt = absurd (omega (arith, lt))
some-here {T} (x ∷ xs) zero lt = (x, refl)
some-here {T} (x ∷ xs) (suc n) lt = some-here xs n (omega (arith, lt))

pub started-planned-at : {P : Type 0} (a b : ObjectsState P) (sites : List SiteState) (jobs later : List OpenJob) (k s : ℕ) → s < length sites → IfSome (slice_get sites s) (λ state. Starts a jobs k s state later) → b ≡ a → ArePlanned a sites jobs → ArePlanned b sites later
started-planned-at {P} a b sites jobs later k s lt starts same planned =
    let here = some-here sites s lt in
    subst (λ (x : ObjectsState P). ArePlanned x sites later) (sym same)
    (started-planned a sites jobs later k s here.0 (subst (λ (o : Option SiteState). IfSome o (λ state. Starts a jobs k s state later)) here.1 starts) planned)

pub started-opened-at : {P : Type 0} (a : ObjectsState P) (sites : List SiteState) (jobs later : List OpenJob) (k s : ℕ) → s < length sites → IfSome (slice_get sites s) (λ state. Starts a jobs k s state later) → AreSitesOf sites jobs → AreSitesOf sites later
started-opened-at {P} a sites jobs later k s lt starts opened =
    let here = some-here sites s lt in
    started-opened a sites jobs later k s here.0 here.1 (subst (λ (o : Option SiteState). IfSome o (λ state. Starts a jobs k s state later)) here.1 starts) opened

module _ {P : Type 0} (a b : ObjectsState P) (jobs later : List OpenJob) (j : ℕ) (steps : Steps All a jobs j b later) where
  met : HaveMet a b
  met = met-batch a b _ steps.batch.objects

  abbrev y : OpenJob
  y = record { job = steps.job; reader = after_batch steps.x.reader (position_of a.heap.desk) steps.made }

  stepped-rested : RestIsNow → IsRest a.heap.view a.kept → IsDesk a.heap.view a.heap.desk → beginning steps.x.reader ≤ length a.heap.desk.trail → HasRested a steps.x → HasRested b y
  stepped-rested law rest desk le rested =
      let r = steps.x.reader in
      let now = position_of a.heap.desk in
      let reads : reads_made y.reader ≡ reads_made r ++ steps.made = append-nil (reads_of (entry_with r now steps.made)) ∙ batch-reads r now steps.made in
      let start : beginning y.reader ≡ beginning r = start-behind r.parts r.begin now r.last now (part_at now steps.made ∷ []) in
      let here = batch-rests a law rest desk steps.x steps.made (asks steps.job) le rested steps.batch.leads steps.batch.words in
      let there = met-by a b (λ (s : ObjectsState P). Rests s (beginning r) (reads_made r ++ steps.made)) (λ entries n. rests-met a entries n (beginning r) (reads_made r ++ steps.made) here) met in
      inr (steps.batch.enough, subst (λ (n : ℕ). Rests b n (reads_made y.reader)) (sym start) (subst (λ (xs : List Access). Rests b (beginning r) xs) (sym reads) there))

  -- a job that made all reads that were left made them here
  pub stepped-planned : (sites : List SiteState) → RestIsNow → IsRest a.heap.view a.kept → IsDesk a.heap.view a.heap.desk → AreReading a jobs → ArePlanned a sites jobs → ArePlanned b sites later
  stepped-planned sites law rest desk reading planned = record {
    installed = met-installed a b sites met planned.installed;
    resting = each-but (HasRested a) (HasRested b) jobs later j steps.others (λ x h. met-rested a b x met h)
        (λ x is. subst (HasRested b) (some-is y x (sym steps.now ∙ is)) (stepped-rested law rest desk (reading j steps.x steps.was).start (planned.resting j steps.x steps.was))) planned.resting;
  }

  pub stepped-opened : (sites : List SiteState) → AreSitesOf sites jobs → AreSitesOf sites later
  stepped-opened sites opened =
      each-but IsOf IsOf jobs later j steps.others (λ x h. h)
      (λ x is. subst IsOf (some-is y x (sym steps.now ∙ is))
      (subst (λ (n : ℕ). IsSomeAnd (slice_get sites n) (λ (z : SiteState). z.site ≡ steps.job.what)) (sym (ap (λ (job : JobState). job.site) steps.batch.same))
      (subst (λ (what : Site). IsSomeAnd (slice_get sites steps.x.job.site) (λ (z : SiteState). z.site ≡ what)) (sym (ap (λ (job : JobState). job.what) steps.batch.same)) (opened j steps.x steps.was)))) opened
    where
      IsOf : OpenJob → Type 0
      IsOf x = IsSomeAnd (slice_get sites x.job.site) (λ (z : SiteState). z.site ≡ x.job.what)

-- Commands that are none of jobs

later-rested : {P : Type 0} (law : RestingStays) (a b : ObjectsState P) (x : OpenJob) → IsDesk a.heap.view a.heap.desk → IsDesk b.heap.view b.heap.desk → b.heap.view.shape ≡ a.heap.view.shape → Goes a.heap.desk b.heap.desk → HasRested a x → HasRested b x
later-rested {P} law a b x desk desk_now shape goes (inl none) = inl none
later-rested {P} law a b x desk desk_now shape goes (inr rested) = inr (rested.0, law a.heap.view b.heap.view a.heap.desk b.heap.desk (beginning x.reader) (reads_made x.reader) desk desk_now shape goes rested.1)

pub result-planned : {P : Type 0} (law : RestingStays) (a b : ObjectsState P) (sites now : List SiteState) (jobs : List OpenJob) (r : Result Reply Memory) → IsDesk a.heap.view a.heap.desk → IsDesk b.heap.view b.heap.desk → b.heap.view.shape ≡ a.heap.view.shape → Goes a.heap.desk b.heap.desk → ArePlanned a sites jobs
    → OnOk r (AreInstalled b.heap.view.shape b.heap.view.trail now) → OnOk r (ArePlanned b now jobs)
result-planned {P} law a b sites now jobs (Ok reply) desk desk_now shape goes planned borne = record {
  installed = borne;
  resting = λ j x is. later-rested law a b x desk desk_now shape goes (planned.resting j x is);
}
result-planned {P} law a b sites now jobs (Err fault) desk desk_now shape goes planned borne = tt
