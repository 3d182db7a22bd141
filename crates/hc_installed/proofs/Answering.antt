-- How a site's plan answers: by the words of this moment, of which the trail says the same.
use Rattle.std.proofs.Common.{◌≡◌, ℕ, zero, suc, ◌-◌, ◌<◌, ◌≤◌, Bool, true, false, Option, Some, None, List, [], ◌∷◌, length, drop, refl, sym, ap, ◌∙◌, subst, arith}
use Rattle.std.specs.Prelude.{IfSome, IsSomeAnd, if◌then◌else◌, nat_lt, option_and_then, slice_get, slice_index}
use Rattle.std.specs.List.{AllByRecursion}
use Rattle.hc_board.specs.Laws.{NowIsImage}
use Rattle.hc_board.specs.States.{WriterState, words_of}
use Rattle.hc_board.specs.Trail.{image_of}
use Rattle.hc_layout.specs.Place.{index_of}
use Rattle.hc_layout.specs.Shape.{items_of, words_of as width_of}
use Rattle.hc_layout.specs.declared.shape.Shape.{Shape}
use Rattle.hc_value.specs.declared.value.Value.{Value}
use Rattle.hc_heap.specs.Decode.{typed, optional_number}
use Rattle.hc_heap.specs.Kept.{at as position_at, StoresAreWrites, WordsSay}
use Rattle.hc_heap.specs.Kinds.{place_at, region_of}
use Rattle.hc_heap.specs.Lawful.{Lawful}
use Rattle.hc_heap.specs.Readings.{bits_in, map_in}
use Rattle.hc_heap.specs.Said.{Says}
use Rattle.hc_heap.specs.States.{IsDesk, IsHeap, View}
use Rattle.hc_heap.specs.Writes.{Trail}
use Rattle.hc_heap.specs.declared.kind.Kind.{Kind}
use Rattle.hc_heap.specs.declared.kind.Kind.TheVariants.{MapOfObject}
use Rattle.hc_modes.specs.Came.{IsStill}
use Rattle.hc_modes.specs.State.{IsLive, ObjectsState}
use Rattle.hc_plan.specs.declared.case.Case.{Case}
use Rattle.hc_plan.specs.declared.plan.Plan.{Plan}
use Rattle.hc_sites.specs.State.{plan_at, plan_in}
use Rattle.hc_sites.specs.declared.state.SiteState.{SiteState}
use Rattle.hc_deps.specs.Image.{map_on}
use Rattle.hc_soundness.specs.Borne.{NamesLive}
use Rattle.hc_soundness.specs.Laws.{BorneNamesLive}
use Rattle.hc_soundness.specs.Rest.{IsRest}
use Rattle.hc_installed.specs.Answers.{IsFirstToAdmit, IsHit, IsMiss}
use Rattle.hc_installed.specs.Installed.{AreInstalled, HasInstalled, IsInstalled}
use Rattle.hc_installed.specs.Laws.{HitsStay, MissesStay}
use Rattle.hc_installed.proofs.Lists.{all-item, if-at, none-some, some-and, some-same}

-- After loads

some-to : {T : Type 0} (P Q : T → Type 0) (o : Option T) → ((v : T) → P v → Q v) → IsSomeAnd o P → IsSomeAnd o Q
some-to P Q (Some v) to h = to v h
some-to P Q None to h = absurd h

first-stays : {P : Type 0} (a b : ObjectsState P) (o : ℕ) (value : Option Value) (cases : List Case) (number : ℕ) → IsStill a b → IsFirstToAdmit a o value cases number → IsFirstToAdmit b o value cases number
first-stays {P} a b o value cases number still h =
    subst (λ (s : ObjectsState P). IsFirstToAdmit s o value cases number) (sym still.is) (record { case = h.case; here = h.here; before = h.before; admits = h.admits })

pub hits-stay : {P : Type 0} → HitsStay P
hits-stay a b sites s o number value still h =
    some-to (λ (plan : Plan). IsFirstToAdmit a o value plan.cases number) (λ (plan : Plan). IsFirstToAdmit b o value plan.cases number) (plan_at sites s)
    (λ plan first. first-stays a b o value plan.cases number still first) h

pub misses-stay : {P : Type 0} → MissesStay P
misses-stay {P} a b sites s o value still h = subst (λ (x : ObjectsState P). IsMiss x sites s o value) (sym still.is) h

-- A site's plan

if-item : {T : Type 0} (P : T → Type 0) (xs : List T) (i : ℕ) → AllByRecursion P xs → IfSome (slice_get xs i) P
if-item P [] i h = tt
if-item P (x ∷ xs) zero h = h.0
if-item P (x ∷ xs) (suc i) h = if-item P xs i h.1

-- a plan of a site is for what that does, and borne
pub installed-in : (s : Shape) (t : Trail) (state : Option SiteState) (plan : Plan) → IfSome state (HasInstalled s t) → plan_in state ≡ Some plan → IsSomeAnd state (λ x. IsInstalled s t x.site plan)
installed-in s t None plan h e = none-some plan _ e
installed-in s t (Some x) plan h e = if-at (IsInstalled s t x.site) x.plan plan e h

pub installed-at : (s : Shape) (t : Trail) (sites : List SiteState) (i : ℕ) (plan : Plan) → AreInstalled s t sites → plan_at sites i ≡ Some plan → IsSomeAnd (slice_get sites i) (λ x. IsInstalled s t x.site plan)
installed-at s t sites i plan h e = installed-in s t (slice_get sites i) plan (if-item (HasInstalled s t) sites i h) e

-- What the words say

pub there-then : {T : Type 0} (x n : ℕ) (one other : T) → x < n → (if nat_lt x n then one else other) ≡ one
there-then {T} x n one other lt = let is : nat_lt x n ≡ true = grind (arith, lt) in ap (λ (b : Bool). if b then one else other) is

past-else : {T : Type 0} (x n : ℕ) (one other : T) → n ≤ x → (if nat_lt x n then one else other) ≡ other
past-else {T} x n one other le = let is : nat_lt x n ≡ false = grind (arith, le) in ap (λ (b : Bool). if b then one else other) is

module _ (say : WordsSay) (are : StoresAreWrites) (image_now : NowIsImage) (v : View) (d : WriterState) (heap : IsHeap v) (desk : IsDesk v d) where
  words-are : image_of (width_of v.shape) d.trail ≡ words_of d
  words-are = ap (λ (n : ℕ). image_of n d.trail) (sym desk.width)

  at-end : position_at (length d.trail) (typed v.shape d.trail) ≡ v.trail
  at-end =
      let same : length (typed v.shape d.trail) ≡ length d.trail = are v.shape d.trail in
      let none : length (typed v.shape d.trail) - length d.trail ≡ 0 = omega arith in
      ap (λ (n : ℕ). drop n (typed v.shape d.trail)) none ∙ sym desk.trail

  abbrev pub word : Kind → ℕ → ℕ
  word kind x = slice_index (words_of d) (index_of v.shape (place_at kind x))

  pub says : (kind : Kind) (x : ℕ) → x < items_of v.shape (region_of kind) → Says kind v.trail x (word kind x)
  says kind x lt =
      subst (λ (words : List ℕ). Says kind v.trail x (slice_index words (index_of v.shape (place_at kind x)))) words-are
      (subst (λ (t : Trail). Says kind t x (slice_index (image_of (width_of v.shape) d.trail) (index_of v.shape (place_at kind x)))) at-end
      (subst (λ (w : ℕ). Says kind (position_at (length d.trail) (typed v.shape d.trail)) x w) (image_now (width_of v.shape) d.trail (index_of v.shape (place_at kind x)))
      (say v.shape d.trail (length d.trail) kind x (subst (Lawful v.shape) desk.trail heap.lawful) lt)))

  pub map-there : (o : ℕ) → o < v.shape.objects → map_on v.shape (words_of d) o ≡ map_in v.trail o
  map-there o lt =
      ap (option_and_then (λ (map : Option ℕ). map)) (there-then o v.shape.objects (optional_number (word MapOfObject o)) None lt ∙ says MapOfObject o lt)

  pub map-past : (o : ℕ) → v.shape.objects ≤ o → map_on v.shape (words_of d) o ≡ None
  map-past o le = ap (option_and_then (λ (map : Option ℕ). map)) (past-else o v.shape.objects (optional_number (word MapOfObject o)) None le)

  -- an object that has a map is one of the board
  pub object-there : (o m : ℕ) → map_on v.shape (words_of d) o ≡ Some m → o < v.shape.objects
  object-there o m h = by (nat_lt o v.shape.objects) refl
    where
      by : (b : Bool) → nat_lt o v.shape.objects ≡ b → o < v.shape.objects
      by true e = grind (arith, e)
      by false e = none-some m (o < v.shape.objects) (sym (map-past o (grind (arith, e))) ∙ h)

  pub map-said : (o m : ℕ) → map_on v.shape (words_of d) o ≡ Some m → map_in v.trail o ≡ Some m
  map-said o m h = sym (map-there o (object-there o m h)) ∙ h

  -- a receiver that a case of a borne plan admits has that case's map, which isn't deprecated
  hit-live : (o : ℕ) (cases : List Case) (number : ℕ) (case : Case) → AllByRecursion (NamesLive v.trail) cases → slice_get cases number ≡ Some case → map_on v.shape (words_of d) o ≡ Some case.map → IsLive v.trail o
  hit-live o cases number case live here has m is =
      subst (λ (x : ℕ). (bits_in v.trail x).deprecated ≡ false) (some-same case.map m (sym (map-said o case.map has) ∙ is)) (all-item (NamesLive v.trail) cases number case live here).map

pub hits-live : {P : Type 0} (say : WordsSay) (are : StoresAreWrites) (image_now : NowIsImage) (names : BorneNamesLive) (a : ObjectsState P) (rest : IsRest a.heap.view a.kept) (desk : IsDesk a.heap.view a.heap.desk)
    (sites : List SiteState) (s o number : ℕ) (value : Option Value) → AreInstalled a.heap.view.shape a.heap.view.trail sites → IsHit a sites s o value number → IsLive a.heap.view.trail o
hits-live say are image_now names a rest desk sites s o number value installed hit =
    let at = some-and (λ (plan : Plan). IsFirstToAdmit a o value plan.cases number) (plan_at sites s) hit in
    let state = some-and (λ (x : SiteState). IsInstalled a.heap.view.shape a.heap.view.trail x.site at.0) (slice_get sites s) (installed-at a.heap.view.shape a.heap.view.trail sites s at.0 installed at.1) in
    hit-live say are image_now a.heap.view a.heap.desk rest.heap desk o at.0.cases number at.2.case (names a.heap.view a.kept at.0 rest state.2.borne) at.2.here at.2.admits.map
