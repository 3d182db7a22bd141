-- The plan of a site is asked, and once more when the receiver was migrated.
use Rattle.std.proofs.Common.{◌≡◌, ℕ, zero, suc, ◌+◌, ◌≤◌, Ok, Err, Bool, true, false, List, [], ◌∷◌, ◌++◌, length, append-nil, Option, Some, None, refl, sym, ap, ◌∙◌, subst, arith}
use Rattle.std.specs.Prelude.{IfOk, OnOk, OnErr, IfSome, IsSome, IsSomeAnd, Result, is_some, option_map, slice_get}
use Rattle.hc_board.specs.States.{WriterState, counted, words_of}
use Rattle.hc_board.specs.Trail.{Access}
use Rattle.hc_heap.specs.States.{OnlyLoads}
use Rattle.hc_heap.specs.Writes.{Trail}
use Rattle.hc_layout.specs.declared.shape.Shape.{Shape}
use Rattle.hc_modes.specs.Laws.{still-refl, still-on}
use Rattle.hc_modes.specs.Admitting.{IsHonest}
use Rattle.hc_modes.specs.Rest.{AreCalm}
use Rattle.hc_modes.specs.State.{IsLive, ObjectsState}
use Rattle.hc_objects.specs.Came.{Came, IsStill, MadeLive, Moves}
use Rattle.hc_objects.specs.Laws.{came-before, live-after, live-moves}
use Rattle.hc_objects.specs.Onward.{HasGoneOn}
use Rattle.hc_plan.specs.declared.case.Site.{Site}
use Rattle.hc_sites.specs.declared.cached.Cached.{Cached}
use Rattle.hc_sites.specs.declared.state.SiteState.{SiteState}
use Rattle.hc_table.specs.Changes.{Did, Nothing, Moved}
use Rattle.hc_value.specs.declared.memory.Memory.{Memory}
use Rattle.hc_value.specs.declared.reply.Reply.{Reply}
use Rattle.hc_value.specs.declared.value.Value.{Value}
use Rattle.hc_access.specs.Entries.{AreGood, IsGoodEntry}
use Rattle.hc_answers.specs.Laws.{AreWritten}
use Rattle.hc_plan.specs.declared.deps.Dep.{Dep}
use Rattle.hc_installed.specs.Answers.{IsGiven, IsHit, IsMiss}
use Rattle.hc_installed.specs.Discards.{broken_by, discard_lines, unbroken_sites, unless_broken}
use Rattle.hc_installed.specs.Installed.{AreInstalled}
use Rattle.hc_installed.specs.Laws.{AreUnbroken}
use Rattle.hc_report.specs.declared.line.Line.{Line}
use Rattle.hc_session.specs.Asking.{Agree, HasAnswered, HasHit, HasMissed, IsQuick, IsReady}
use Rattle.hc_session.specs.Jobs.{AreSeen}
use Rattle.hc_session.specs.Plans.{lines_lost, sites_left}
use mathlib.Core.Logic.{inl, inr}

-- Options and results

pub none-of : {A : Type 0} (x : Option A) → is_some x ≡ false → x ≡ None
none-of {A} None e = refl
none-of {A} (Some v) e = let f : ⊥ = cc in absurd f

pub some-not : {A C : Type 0} (x : Option A) → is_some x ≡ true → x ≡ None → C
some-not {A} {C} None e none = let f : ⊥ = cc in absurd f
some-not {A} {C} (Some v) e none = let f : ⊥ = cc in absurd f

pub some-is : {A : Type 0} (x : Option A) → is_some x ≡ true → IsSome x
some-is {A} None e = let f : ⊥ = cc in absurd f
some-is {A} (Some v) e = refl

-- of no answer all is said
pub none-answers : {A : Type 0} (Q : A → Type 0) (x : Option A) → x ≡ None → IfSome x Q
none-answers {A} Q None e = tt
none-answers {A} Q (Some v) e = let f : ⊥ = cc in absurd f

-- Loads

pub loads-within : (m n : ℕ) (a b : WriterState) → m ≤ n → OnlyLoads m a b → OnlyLoads n a b
loads-within m n a b le x = record { is = x.is; least = x.least; most = omega (arith, le, x.most) }

pub loads-on : (m n : ℕ) (a b c : WriterState) → OnlyLoads m a b → OnlyLoads n b c → OnlyLoads (m + n) a c
loads-on m n a b c x y = record {
  is = y.is ∙ ap (λ (w : WriterState). record w { loads = c.loads }) x.is;
  least = omega (arith, x.least, y.least);
  most = omega (arith, x.most, y.most);
}

-- Sites that lose their plans keep all else

abbrev IsAlike : SiteState → SiteState → Type 0
IsAlike x y = (y.site ≡ x.site) × ((y.cache ≡ x.cache) × (y.maps ≡ x.maps))

alike-one : (broken : Option Dep) (x : SiteState) → IsAlike x (unless_broken broken x)
alike-one None x = (refl, (refl, refl))
alike-one (Some dep) x = (refl, (refl, refl))

left-state : (s : Shape) (words : List ℕ) (sites : List SiteState) (n : ℕ) (y : SiteState) → slice_get (unbroken_sites s words sites) n ≡ Some y → (x : SiteState) × (slice_get sites n ≡ Some x) × IsAlike x y
unfolding unbroken_sites
left-state s words [] n y is = let f : ⊥ = cc in absurd f
left-state s words (x ∷ xs) zero y is = (x, refl, subst (λ (z : Option SiteState). IsSomeAnd z (IsAlike x)) is (alike-one (broken_by s words x) x))
left-state s words (x ∷ xs) (suc n) y is = left-state s words xs n y is

pub left-good : {P : Type 0} (a : ObjectsState P) (s : Shape) (words : List ℕ) (sites : List SiteState) → AreGood a sites → AreGood a (unbroken_sites s words sites)
left-good {P} a s words sites good n y entry here cached =
    let x = left-state s words sites n y here in
    subst (λ (what : Site). IsGoodEntry a what entry) (sym x.2.0) (good n x.0 entry x.1 (sym x.2.1.0 ∙ cached))

pub left-seen : (t : Trail) (s : Shape) (words : List ℕ) (sites : List SiteState) → AreSeen t sites → AreSeen t (unbroken_sites s words sites)
left-seen t s words sites seen n y here =
    let x = left-state s words sites n y here in
    subst (λ (maps : List ℕ). AreWritten t maps) (sym x.2.1.1) (seen n x.0 x.1)

-- they do what they did
pub left-at : (s : Shape) (words : List ℕ) (sites : List SiteState) (k : ℕ) → option_map (λ (x : SiteState). x.site) (slice_get (unbroken_sites s words sites) k) ≡ option_map (λ (x : SiteState). x.site) (slice_get sites k)
unfolding unbroken_sites
left-at s words [] k = refl
left-at s words (x ∷ xs) zero = ap (λ (site : Site). Some site) (alike-one (broken_by s words x) x).0
left-at s words (x ∷ xs) (suc k) = left-at s words xs k

-- what is true of what a site does
pub left-if : (s : Shape) (words : List ℕ) (Q : Site → Type 0) (sites : List SiteState) (k : ℕ) → IfSome (slice_get sites k) (λ (x : SiteState). Q x.site) → IfSome (slice_get (unbroken_sites s words sites) k) (λ (x : SiteState). Q x.site)
unfolding unbroken_sites
left-if s words Q [] k h = h
left-if s words Q (x ∷ xs) zero h = subst Q (sym (alike-one (broken_by s words x) x).0) h
left-if s words Q (x ∷ xs) (suc k) h = left-if s words Q xs k h

pub ready-if : {P : Type 0} (went : P → List Access → List Access → P → Type 0) (Q : Site → Type 0) (a ready : ObjectsState P) (sites now : List SiteState) (log log_now : List (ℕ × Line)) (o k : ℕ) → IsReady went a sites log o ready now log_now → IfSome (slice_get sites k) (λ (x : SiteState). Q x.site) → IfSome (slice_get now k) (λ (x : SiteState). Q x.site)
ready-if {P} went Q a ready sites now log log_now o k is_ready h =
    subst (λ (xs : List SiteState). IfSome (slice_get xs k) (λ (x : SiteState). Q x.site)) (sym is_ready.sites_are) (left-if ready.heap.view.shape (words_of ready.heap.desk) Q sites k h)

-- Loads alone change nothing of what is discarded

pub left-still : {P : Type 0} (a b : ObjectsState P) (sites : List SiteState) → IsStill a b → sites_left b sites ≡ sites_left a sites
left-still {P} a b sites still = ap (λ (x : ObjectsState P). sites_left x sites) still.is

pub lost-still : {P : Type 0} (a b : ObjectsState P) (sites : List SiteState) → IsStill a b → lines_lost b sites ≡ lines_lost a sites
lost-still {P} a b sites still = ap (λ (x : ObjectsState P). lines_lost x sites) still.is

-- nor of what holds of sites
pub agree-still : {P : Type 0} (a b : ObjectsState P) (sites : List SiteState) → IsStill a b → AreGood b sites → Agree a sites → Agree b sites
agree-still {P} a b sites still good agree = record {
  good = good;
  seen = subst (λ (x : ObjectsState P). AreSeen x.heap.view.trail sites) (sym still.is) agree.seen;
  calm = subst (λ (x : ObjectsState P). AreCalm x.heap.view.trail) (sym still.is) agree.calm;
  honest = subst (λ (x : ObjectsState P). IsHonest x.heap.view.trail) (sym still.is) agree.honest;
  installed = subst (λ (x : ObjectsState P). AreInstalled x.heap.view.shape x.heap.view.trail sites) (sym still.is) agree.installed;
}

-- once plans are discarded
pub agree-left : {P : Type 0} (mid b : ObjectsState P) (sites now : List SiteState) (shape : Shape) → IsStill mid b → shape ≡ mid.heap.view.shape → now ≡ unbroken_sites shape (words_of mid.heap.desk) sites → AreGood b sites → AreSeen mid.heap.view.trail sites → AreCalm mid.heap.view.trail → IsHonest mid.heap.view.trail
    → AreInstalled mid.heap.view.shape mid.heap.view.trail (unbroken_sites mid.heap.view.shape (words_of mid.heap.desk) sites) → Agree b now
agree-left {P} mid b sites now shape still same sited good seen calm honest installed = record {
  good = subst (λ (xs : List SiteState). AreGood b xs) (sym sited) (left-good b shape (words_of mid.heap.desk) sites good);
  seen = subst (λ (xs : List SiteState). AreSeen b.heap.view.trail xs) (sym sited) (subst (λ (x : ObjectsState P). AreSeen x.heap.view.trail (unbroken_sites shape (words_of mid.heap.desk) sites)) (sym still.is) (left-seen mid.heap.view.trail shape (words_of mid.heap.desk) sites seen));
  calm = subst (λ (x : ObjectsState P). AreCalm x.heap.view.trail) (sym still.is) calm;
  honest = subst (λ (x : ObjectsState P). IsHonest x.heap.view.trail) (sym still.is) honest;
  installed = subst (λ (xs : List SiteState). AreInstalled b.heap.view.shape b.heap.view.trail xs) (sym (sited ∙ ap (λ (q : Shape). unbroken_sites q (words_of mid.heap.desk) sites) same))
      (subst (λ (x : ObjectsState P). AreInstalled x.heap.view.shape x.heap.view.trail (unbroken_sites mid.heap.view.shape (words_of mid.heap.desk) sites)) (sym still.is) installed);
}

-- What a plan answered

module _ {P : Type 0} (went : P → List Access → List Access → P → Type 0) where
  -- objects moved, whether there was memory or not
  pub result-moves : {R : Type 0} (a b : ObjectsState P) (o : ℕ) (r : Result R Memory) → OnOk r (MadeLive went a o b) → OnErr r (Moves went a b) → Moves went a b
  result-moves {R} a b o (Ok x) made moves = live-moves went a b o made
  result-moves {R} a b o (Err fault) made moves = moves

  given-came : (a b : ObjectsState P) (o name : ℕ) (value : Option Value) (reply : Reply) → IsGiven went a o name value reply b → (did : Did) × Came went a did b
  given-came a b o name None reply given = (Nothing, given.still)
  given-came a b o name (Some v) reply given = (_, given.came)

  some-came : (a b : ObjectsState P) (o : ℕ) (value : Option Value) (reply : Reply) (state : Option SiteState) → IsSomeAnd state (λ (x : SiteState). IsGiven went a o x.site.name value reply b) → (did : Did) × Came went a did b
  some-came a b o value reply None given = absurd given
  some-came a b o value reply (Some x) given = given-came a b o x.site.name value reply given

  -- something came of the objects, whether it answered or not
  pub found-came : (a b : ObjectsState P) (sites : List SiteState) (log log_now : List (ℕ × Line)) (s o : ℕ) (value : Option Value) (found : Option Reply) → IfSome found (λ (reply : Reply). HasHit went a sites log s o value reply b log_now) → (found ≡ None → IsStill a b) → (did : Did) × Came went a did b
  found-came a b sites log log_now s o value None hit still = (Nothing, still refl)
  found-came a b sites log log_now s o value (Some reply) hit still = some-came a b o value reply (slice_get sites s) hit.given

  -- what answers is on a live receiver
  pub found-live : (a b : ObjectsState P) (sites : List SiteState) (log log_now : List (ℕ × Line)) (s o : ℕ) (value : Option Value) (found : Option Reply) → ((number : ℕ) → IsHit a sites s o value number → IsLive a.heap.view.trail o)
      → IfSome found (λ (reply : Reply). HasHit went a sites log s o value reply b log_now) → IsSome found → IsLive a.heap.view.trail o
  found-live a b sites log log_now s o value None law hit some = let f : ⊥ = cc in absurd f
  found-live a b sites log log_now s o value (Some reply) law hit some = law hit.number hit.is_hit

  -- The receiver is ready

  -- as it was live, and no plan is broken
  pub ready-first : (a : ObjectsState P) (sites : List SiteState) (log : List (ℕ × Line)) (o : ℕ) (b : ObjectsState P) → IsLive a.heap.view.trail o → IsStill a b → AreUnbroken a.heap.view.shape (words_of a.heap.desk) sites → IsReady went a sites log o b sites log
  ready-first a sites log o b live still unbroken = record {
    made = inl (live, still);
    sites_are = sym (left-still a b sites still ∙ unbroken.left);
    lines_are = sym (ap (λ (xs : List (ℕ × Line)). log ++ xs) (lost-still a b sites still ∙ unbroken.none (counted (length a.heap.desk.trail))) ∙ append-nil log);
  }

  -- after loads
  pub ready-before : ((x y z : ObjectsState P) (o : ℕ) → IsStill x y → MadeLive went y o z → MadeLive went x o z) → (a b c : ObjectsState P) (sites now : List SiteState) (log log_mid log_now : List (ℕ × Line)) (o : ℕ) → IsStill a b → log_mid ≡ log → IsReady went b sites log_mid o c now log_now → IsReady went a sites log o c now log_now
  ready-before law a b c sites now log log_mid log_now o still same ready = record {
    made = law a b c o still ready.made;
    sites_are = ready.sites_are;
    lines_are = ready.lines_are ∙ ap (λ (xs : List (ℕ × Line)). xs ++ lines_lost c sites) same;
  }

  -- as it was migrated, and the plans discarded that were broken
  pub ready-moved : (a mid b : ObjectsState P) (sites now : List SiteState) (log log_now : List (ℕ × Line)) (o at : ℕ) (shape : Shape) → MadeLive went a o mid → IsStill mid b → shape ≡ mid.heap.view.shape → at ≡ counted (length mid.heap.desk.trail)
      → now ≡ unbroken_sites shape (words_of mid.heap.desk) sites → log_now ≡ log ++ discard_lines shape (words_of mid.heap.desk) at sites → IsReady went a sites log o b now log_now
  ready-moved a mid b sites now log log_now o at shape made still same position sited lined = record {
    made = live-after went a mid b o made still;
    sites_are = sited ∙ (ap (λ (q : Shape). unbroken_sites q (words_of mid.heap.desk) sites) same ∙ sym (left-still mid b sites still));
    lines_are = lined ∙ (ap (λ (q : Shape). log ++ discard_lines q (words_of mid.heap.desk) at sites) same
        ∙ (ap (λ (n : ℕ). log ++ discard_lines mid.heap.view.shape (words_of mid.heap.desk) n sites) position ∙ ap (λ (xs : List (ℕ × Line)). log ++ xs) (sym (lost-still mid b sites still))));
  }

  -- it misses
  pub missed-after : (a mid b : ObjectsState P) (sites now : List SiteState) (log log_mid log_now : List (ℕ × Line)) (s o : ℕ) (value : Option Value) → IsReady went a sites log o mid now log_mid → IsLive mid.heap.view.trail o → IsStill mid b → log_now ≡ log_mid → IsMiss b now s o value → Agree b now
      → HasMissed went a sites log s o value b now log_now
  missed-after a mid b sites now log log_mid log_now s o value ready live still same miss agree = record {
    is_ready = record {
      made = live-after went a mid b o ready.made still;
      sites_are = ready.sites_are ∙ sym (left-still mid b sites still);
      lines_are = same ∙ (ready.lines_are ∙ ap (λ (xs : List (ℕ × Line)). log ++ xs) (sym (lost-still mid b sites still)));
    };
    miss = miss;
    agree = agree;
    live = subst (λ (x : ObjectsState P). IsLive x.heap.view.trail o) (sym still.is) live;
  }

  -- it was live, and misses
  pub missed-first : (a b : ObjectsState P) (sites : List SiteState) (log log_now : List (ℕ × Line)) (s o : ℕ) (value : Option Value) → IsLive b.heap.view.trail o → IsStill a b → log_now ≡ log → AreUnbroken a.heap.view.shape (words_of a.heap.desk) sites → IsMiss b sites s o value → Agree b sites
      → HasMissed went a sites log s o value b sites log_now
  missed-first a b sites log log_now s o value live still same unbroken miss agree = record {
    is_ready = subst (λ (xs : List (ℕ × Line)). IsReady went a sites log o b sites xs) (sym same) (ready-first a sites log o b (subst (λ (x : ObjectsState P). IsLive x.heap.view.trail o) still.is live) still unbroken);
    miss = miss;
    agree = agree;
    live = live;
  }

  -- Answers

  pub answered-by : (a ready b : ObjectsState P) (sites now : List SiteState) (log log_ready log_now : List (ℕ × Line)) (s o : ℕ) (value : Option Value) (found : Option Reply) → (IsSome found → IsReady went a sites log o ready now log_ready)
      → AreInstalled ready.heap.view.shape ready.heap.view.trail now → HasGoneOn ready b → IfSome found (λ (reply : Reply). HasHit went ready now log_ready s o value reply b log_now)
      → IfSome found (λ (reply : Reply). HasAnswered went a sites log s o value reply b now log_now)
  answered-by a ready b sites now log log_ready log_now s o value None is_ready installed goes hit = tt
  answered-by a ready b sites now log log_ready log_now s o value (Some reply) is_ready installed goes hit = record { ready = ready; log_ready = log_ready; is_ready = is_ready refl; hit = hit; installed = installed; goes = goes }

  module _ (law : (x y z : ObjectsState P) (o : ℕ) → IsStill x y → MadeLive went y o z → MadeLive went x o z) (a mid b : ObjectsState P) (sites now : List SiteState) (log log_mid log_now : List (ℕ × Line)) (s o : ℕ) (value : Option Value) (still : IsStill a mid) (same : log_mid ≡ log) where
    answered-on : (reply : Reply) → HasAnswered went mid sites log_mid s o value reply b now log_now → HasAnswered went a sites log s o value reply b now log_now
    answered-on reply h = record { ready = h.ready; log_ready = h.log_ready; is_ready = ready-before law a mid h.ready sites now log log_mid h.log_ready o still same h.is_ready; hit = h.hit; installed = h.installed; goes = h.goes }

    missed-on : HasMissed went mid sites log_mid s o value b now log_now → HasMissed went a sites log s o value b now log_now
    missed-on h = record { is_ready = ready-before law a mid b sites now log log_mid log_now o still same h.is_ready; miss = h.miss; agree = h.agree; live = h.live }

    some-on : (found : Option Reply) → IfSome found (λ (reply : Reply). HasAnswered went mid sites log_mid s o value reply b now log_now) → IfSome found (λ (reply : Reply). HasAnswered went a sites log s o value reply b now log_now)
    some-on None h = tt
    some-on (Some reply) h = answered-on reply h

    pub answered-before : (r : Result (Option Reply) Memory) → IfOk r (λ (found : Option Reply). IfSome found (λ (reply : Reply). HasAnswered went mid sites log_mid s o value reply b now log_now))
        → IfOk r (λ (found : Option Reply). IfSome found (λ (reply : Reply). HasAnswered went a sites log s o value reply b now log_now))
    answered-before (Ok found) h = some-on found h
    answered-before (Err fault) h = tt

    pub missed-before : (r : Result (Option Reply) Memory) → IfOk r (λ (found : Option Reply). found ≡ None → HasMissed went mid sites log_mid s o value b now log_now) → IfOk r (λ (found : Option Reply). found ≡ None → HasMissed went a sites log s o value b now log_now)
    missed-before (Ok found) h = λ none. missed-on (h none)
    missed-before (Err fault) h = tt

  -- want of memory, after loads
  pub moves-still : {R : Type 0} (a mid b : ObjectsState P) (r : Result R Memory) → IsStill a mid → OnErr r (Moves went mid b) → OnErr r (Moves went a b)
  moves-still {R} a mid b (Ok x) still moves = tt
  moves-still {R} a mid b (Err fault) still moves = came-before went a mid b Moved still moves

-- something was stored, so nothing is said of loads
pub quick-by : {P R : Type 0} (n : ℕ) (a mid b : ObjectsState P) (value : Option Value) (r : Result R Memory) → IsStill a mid → OnOk r (value ≡ None → b.heap.desk.trail ≡ mid.heap.desk.trail → ⊥) → OnOk r (value ≡ None → IsQuick n a b)
quick-by {P} {R} n a mid b value (Ok x) still stored = λ none same. absurd (stored none (same ∙ sym (ap (λ (y : ObjectsState P). y.heap.desk.trail) still.is)))
quick-by {P} {R} n a mid b value (Err fault) still stored = tt

pub quick-hit-by : {P : Type 0} (n : ℕ) (a mid b : ObjectsState P) (value : Option Value) (r : Result (Option Reply) Memory) → IsStill a mid → OnOk r (value ≡ None → b.heap.desk.trail ≡ mid.heap.desk.trail → ⊥) → IfOk r (λ (found : Option Reply). IsSome found → value ≡ None → IsQuick n a b)
quick-hit-by {P} n a mid b value (Ok x) still stored = λ some none same. absurd (stored none (same ∙ sym (ap (λ (y : ObjectsState P). y.heap.desk.trail) still.is)))
quick-hit-by {P} n a mid b value (Err fault) still stored = tt
