-- A job that is started.
use Rattle.std.proofs.Common.{◌≡◌, ℕ, zero, suc, ◌+◌, ◌-◌, ◌<◌, ◌≤◌, true, true≢false, is_some, IfSome, slice_get, Option, Some, None, List, [], ◌∷◌, ◌++◌, length, refl, sym, ap, ◌∙◌, subst, arith}
use Rattle.std.specs.Prelude.{IsSomeAnd, option_map}
use Rattle.hc_board.specs.Parts.{start_of}
use Rattle.hc_board.specs.States.{ReaderState, beginning, new_reader, position_of}
use Rattle.hc_heap.specs.Kept.{StoresAreWrites}
use Rattle.hc_heap.specs.States.{IsDesk}
use Rattle.hc_answers.specs.Laws.{AreWritten}
use Rattle.hc_layout.specs.declared.shape.Shape.{Shape}
use Rattle.hc_planner.specs.Jobs.{JobState}
use Rattle.hc_planner.specs.declared.seeker.Seeker.{Seeker}
use Rattle.hc_jobs.specs.Opened.{OthersStayOpen, open_at}
use Rattle.hc_jobs.specs.declared.table.OpenJob.{OpenJob}
use Rattle.hc_modes.specs.State.{ObjectsState}
use Rattle.hc_plan.specs.declared.case.Site.{Site}
use Rattle.hc_sites.specs.Maps.{AreMaps, places}
use Rattle.hc_sites.specs.State.{feedback_of}
use Rattle.hc_sites.specs.declared.feedback.Feedback.{Feedback}
use Rattle.hc_sites.specs.declared.state.SiteState.{SiteState}
use Rattle.hc_compiler.specs.Calls.{IsNewJob, Starts}
use Rattle.hc_compiler.specs.Feedback.{listed}
use Rattle.hc_compiler.specs.Jobs.{AreReading, IsCompiling, IsReading, Opening, OthersStay}
use Rattle.hc_compiler.proofs.Numbered.{count-with, each-of, next-is-kept, numbered-after, others-put}

-- four places give at most four maps back
pub listed-places : (maps : List ℕ) → length maps ≤ 4 → listed (places maps) ≡ maps
listed-places [] h = refl
listed-places (a ∷ []) h = refl
listed-places (a ∷ b ∷ []) h = refl
listed-places (a ∷ b ∷ c ∷ []) h = refl
listed-places (a ∷ b ∷ c ∷ d ∷ []) h = refl
listed-places (a ∷ b ∷ c ∷ d ∷ e ∷ rest) h = absurd (omega (arith, h))

abbrev given-by : JobState → ReaderState → Opening
given-by job reader = record { job = job.id; site = job.site; what = job.what; maps = job.maps; mega = job.mega; start = beginning reader }

module _ {P : Type 0} (a : ObjectsState P) (j s : ℕ) (state : SiteState) (shape : Shape) (x : OpenJob) where
  pub new-job : (what : Site) (maps : List ℕ) (feedback : Feedback) (seekers : List Seeker) → state.site ≡ what → feedback_of state ≡ feedback → length state.maps ≤ 4 → maps ≡ listed feedback.maps
      → x.job ≡ record { id = j; site = s; what = what; maps = maps; mega = feedback.mega; shape = shape; seekers = seekers } → shape ≡ a.heap.view.shape
      → x.reader ≡ new_reader a.heap.desk.board (position_of a.heap.desk) → IsNewJob a j s state x
  unfolding start_of
  new-job what maps feedback seekers site seen few are job is_shape reader =
      let all : maps ≡ state.maps = are ∙ (ap (λ (f : Feedback). listed f.maps) (sym seen) ∙ listed-places state.maps few) in
      let mega : feedback.mega ≡ state.mega = ap (λ (f : Feedback). f.mega) (sym seen) in
      record {
        given = ap (λ (k : JobState). given-by k x.reader) job ∙ (ap (λ (r : ReaderState). given-by (record { id = j; site = s; what = what; maps = maps; mega = feedback.mega; shape = shape; seekers = seekers }) r) reader
            ∙ rw (all, mega, ← site) refl);
        shape = ap (λ (k : JobState). k.shape) job ∙ is_shape;
        reader = reader;
      }

  pub new-reads : StoresAreWrites → IsDesk a.heap.view a.heap.desk → IsNewJob a j s state x → AreWritten a.heap.view.trail state.maps → IsReading a x
  new-reads law desk new written =
      let start : beginning x.reader ≡ position_of a.heap.desk = ap (λ (o : Opening). o.start) new.given in
      let maps : x.job.maps ≡ state.maps = ap (λ (o : Opening). o.maps) new.given in
      let count : length a.heap.view.trail ≡ position_of a.heap.desk = ap length desk.trail ∙ law a.heap.view.shape a.heap.desk.trail in
      let none : length a.heap.view.trail - beginning x.reader ≡ 0 = omega (arith, start, count) in
      record {
        shape = new.shape;
        board = ap (λ (r : ReaderState). r.board) new.reader;
        start = omega (arith, start);
        written = rw (maps, none) written;
      }

-- what the site of a number and its feedback make of a new job
pub begun : {P : Type 0} (a : ObjectsState P) (j s : ℕ) (found : Option SiteState) (shape : Shape) (x : OpenJob) (what : Site) (maps : List ℕ) (feedback : Feedback) (seekers : List Seeker)
    → Some what ≡ option_map (λ (state : SiteState). state.site) found → option_map feedback_of found ≡ Some feedback → IfSome found (λ state. AreMaps state.maps) → maps ≡ listed feedback.maps
    → x.job ≡ record { id = j; site = s; what = what; maps = maps; mega = feedback.mega; shape = shape; seekers = seekers } → shape ≡ a.heap.view.shape
    → x.reader ≡ new_reader a.heap.desk.board (position_of a.heap.desk) → IfSome found (λ state. IsNewJob a j s state x)
begun a j s None shape x what maps feedback seekers site seen few are job is_shape reader = tt
begun a j s (Some state) shape x what maps feedback seekers site seen few are job is_shape reader =
    let is : state.site ≡ what = cc in
    let told : feedback_of state ≡ feedback = cc in
    new-job a j s state shape x what maps feedback seekers is told few.few are job is_shape reader

-- jobs, with a new one put last
module _ {P : Type 0} (stay : OthersStayOpen) (a : ObjectsState P) (started later : ℕ) (jobs more : List OpenJob) (s : ℕ) (x : OpenJob) (found : Option SiteState)
    (id : x.job.id ≡ started) (last : more ≡ jobs ++ x ∷ []) (now : open_at more x.job.id ≡ Some x) (count : later ≡ started + 1) where
  others-stay : OthersStay jobs more started
  others-stay = subst (λ (l : List OpenJob). OthersStay jobs l started) (sym last) (others-put stay jobs x x started id)

  is-there : open_at more started ≡ Some x
  is-there = subst (λ (n : ℕ). open_at more n ≡ Some x) id now

  starts-at : (state : SiteState) → IsNewJob a started s state x → Starts a jobs started s state more
  starts-at state new = record {
    now = subst (λ (o : Option OpenJob). IsSomeAnd o (IsNewJob a started s state)) (sym is-there) new;
    others = others-stay;
    count = ap length last ∙ count-with jobs x;
  }

  pub starts-case : (at : Option SiteState) → IfSome at (λ state. IsNewJob a started s state x) → IfSome at (λ state. Starts a jobs started s state more)
  starts-case None h = tt
  starts-case (Some state) h = starts-at state h

  pub compiling-more : (lent : List Opening) → length jobs + length lent < 64 → IsCompiling (record { started = started; jobs = jobs; lent = lent }) → IsCompiling (record { started = later; jobs = more; lent = lent })
  compiling-more lent room h =
      let one : length more ≡ length jobs + 1 = ap length last ∙ count-with jobs x in
      record {
        numbers = numbered-after started later jobs more lent started others-stay (omega (arith, count)) (omega (arith, count)) (next-is-kept (record { started = started; jobs = jobs; lent = lent }) h.numbers) h.numbers;
        few = omega (arith, one, room);
      }

  reading-at : StoresAreWrites → IsDesk a.heap.view a.heap.desk → (at : Option SiteState) → is_some at ≡ true → IfSome at (λ state. IsNewJob a started s state x) → IfSome at (λ state. AreWritten a.heap.view.trail state.maps) → IsReading a x
  reading-at writes desk None there new written = absurd (true≢false (sym there))
  reading-at writes desk (Some state) there new written = new-reads a started s state x.job.shape x writes desk new written

  pub reading-more : StoresAreWrites → IsDesk a.heap.view a.heap.desk → is_some found ≡ true → IfSome found (λ state. IsNewJob a started s state x) → IfSome found (λ state. AreWritten a.heap.view.trail state.maps)
      → AreReading a jobs → AreReading a more
  reading-more writes desk there new written h = each-of (IsReading a) jobs more started others-stay here h where
    here : (y : OpenJob) → open_at more started ≡ Some y → IsReading a y
    here y e = let is : x ≡ y = (let k : Some x ≡ Some y = sym is-there ∙ e in cc) in subst (IsReading a) is (reading-at writes desk found there new written)

-- a place before the end of a list has an item
pub some-at : (sites : List SiteState) (s : ℕ) → s < length sites → is_some (slice_get sites s) ≡ true
some-at [] s h = absurd (omega (arith, h))
some-at (state ∷ sites) zero h = refl
some-at (state ∷ sites) (suc s) h = some-at sites s (omega (arith, h))
