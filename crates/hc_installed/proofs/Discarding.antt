-- Broken plans are discarded one after another, by rising site.
use Rattle.std.proofs.Common.{◌≡◌, ℕ, zero, suc, ◌+◌, ◌<◌, ◌≤◌, Bool, true, false, nat_lt, Option, Some, None, List, [], ◌∷◌, ◌++◌, drop, length, refl, sym, ap, ◌∙◌, subst, append_assoc, append-nil, arith}
use Rattle.std.specs.Prelude.{option_and_then}
use Rattle.hc_layout.specs.declared.shape.Shape.{Shape}
use Rattle.hc_plan.specs.declared.deps.Dep.{Dep}
use Rattle.hc_plan.specs.declared.plan.Plan.{Plan}
use Rattle.hc_sites.specs.Events.{Event, noted, forgotten, filled, installed, discarded}
use Rattle.hc_sites.specs.State.{after_event, with_event}
use Rattle.hc_sites.specs.declared.state.SiteState.{SiteState}
use Rattle.hc_deps.specs.Verdicts.{IsFirstSite, IsNextBroken}
use Rattle.hc_report.specs.declared.line.Line.{Line}
use Rattle.hc_report.specs.declared.line.Line.TheVariants.{Discard}
use Rattle.hc_installed.specs.Discards.{broken_in, broken_by, unless_broken, unbroken_sites, discard_line, lines_from, one_plan, plan_count}
use Rattle.hc_installed.specs.Laws.{AreUnbroken, InstallsNone, NewSitesCountNone, OtherEventsAddNoPlan, PlansAreFew}
use Rattle.hc_installed.proofs.Lists.{none-some}
use Rattle.hc_installed.proofs.Tests.{broken_at, found-at, none-at}

module _ (s : Shape) (words : List ℕ) where
  -- a site without a plan has none that is broken
  discarded-none : (state : SiteState) → broken_by s words (after_event state discarded) ≡ None
  unfolding broken_by
  discarded-none state = refl

  -- a site whose plan is broken has one
  one-broken : (plan : Option Plan) (dep : Dep) → option_and_then (broken_in s words) plan ≡ Some dep → one_plan plan ≡ 1
  one-broken None dep e = none-some dep (one_plan None ≡ 1) e
  one-broken (Some plan) dep e = refl

  broken-has : (state : SiteState) (dep : Dep) → broken_by s words state ≡ Some dep → one_plan state.plan ≡ 1
  unfolding broken_by
  broken-has state dep e = one-broken state.plan dep e

  -- After one is discarded

  pub still-none : (sites : List SiteState) (site i : ℕ) → broken_at s words sites i ≡ None → broken_at s words (with_event sites site discarded) i ≡ None
  still-none [] site i h = refl
  still-none (x ∷ xs) zero zero h = discarded-none x
  still-none (x ∷ xs) zero (suc i) h = h
  still-none (x ∷ xs) (suc site) zero h = h
  still-none (x ∷ xs) (suc site) (suc i) h = still-none xs site i h

  pub now-none : (sites : List SiteState) (site : ℕ) → broken_at s words (with_event sites site discarded) site ≡ None
  now-none [] site = refl
  now-none (x ∷ xs) zero = discarded-none x
  now-none (x ∷ xs) (suc site) = now-none xs site

  pub same-left : (sites : List SiteState) (site : ℕ) (dep : Dep) → broken_at s words sites site ≡ Some dep → unbroken_sites s words (with_event sites site discarded) ≡ unbroken_sites s words sites
  unfolding unbroken_sites
  same-left [] site dep e = refl
  same-left (x ∷ xs) zero dep e =
      ap (λ (r : Option Dep). unless_broken r (after_event x discarded) ∷ unbroken_sites s words xs) (discarded-none x)
      ∙ sym (ap (λ (r : Option Dep). unless_broken r x ∷ unbroken_sites s words xs) e)
  same-left (x ∷ xs) (suc site) dep e = ap (λ (rest : List SiteState). unless_broken (broken_by s words x) x ∷ rest) (same-left xs site dep e)

  pub same-rest : (sites : List SiteState) (site : ℕ) → drop (suc site) (with_event sites site discarded) ≡ drop (suc site) sites
  same-rest [] site = refl
  same-rest (x ∷ xs) zero = refl
  same-rest (x ∷ xs) (suc site) = same-rest xs site

  pub one-less : (sites : List SiteState) (site : ℕ) (dep : Dep) → broken_at s words sites site ≡ Some dep → plan_count (with_event sites site discarded) + 1 ≡ plan_count sites
  unfolding plan_count
  one-less [] site dep e = none-some dep (plan_count [] + 1 ≡ plan_count []) e
  one-less (x ∷ xs) zero dep e = let one = broken-has x dep e in omega (arith, one)
  one-less (x ∷ xs) (suc site) dep e = let rest = one-less xs site dep e in omega (arith, rest)

  pub within : (sites : List SiteState) (site : ℕ) (dep : Dep) → broken_at s words sites site ≡ Some dep → site < length sites
  within [] site dep e = none-some dep (site < 0) e
  within (x ∷ xs) zero dep e = omega arith
  within (x ∷ xs) (suc site) dep e = let rest = within xs site dep e in omega (arith, rest)

  -- Lines

  module _ (position : ℕ) where
    -- the next line
    pub next-line : (sites : List SiteState) (n from site : ℕ) (dep : Dep) → from ≤ site → ((other : ℕ) → from ≤ other → other < site → broken_at s words sites other ≡ None) → broken_at s words sites site ≡ Some dep
        → lines_from s words position (n + from) (drop from sites) ≡ (position, Discard (n + site) dep) ∷ lines_from s words position (n + suc site) (drop (suc site) sites)
    unfolding lines_from
    next-line [] n from site dep le before e = none-some dep _ e
    next-line (x ∷ xs) n zero zero dep le before e =
        ap (λ (r : Option Dep). discard_line position (n + 0) r ++ lines_from s words position (n + 0 + 1) xs) e
        ∙ ap (λ (i : ℕ). (position, Discard (n + 0) dep) ∷ lines_from s words position i xs) (omega arith)
    next-line (x ∷ xs) n zero (suc site) dep le before e =
        ap (λ (r : Option Dep). discard_line position (n + 0) r ++ lines_from s words position (n + 0 + 1) xs) (before 0 (omega arith) (omega arith))
        ∙ ap (λ (i : ℕ). lines_from s words position i xs) (omega arith)
        ∙ next-line xs (n + 1) zero site dep (omega arith) (λ other low high. before (suc other) (omega arith) (omega arith)) e
        ∙ ap (λ (i : ℕ). (position, Discard i dep) ∷ lines_from s words position (n + 1 + suc site) (drop (suc site) xs)) (omega arith)
        ∙ ap (λ (i : ℕ). (position, Discard (n + suc site) dep) ∷ lines_from s words position i (drop (suc site) xs)) (omega arith)
    next-line (x ∷ xs) n (suc from) zero dep le before e = absurd (omega arith)
    next-line (x ∷ xs) n (suc from) (suc site) dep le before e =
        ap (λ (i : ℕ). lines_from s words position i (drop from xs)) (omega arith)
        ∙ next-line xs (n + 1) from site dep (omega arith) (λ other low high. before (suc other) (omega arith) (omega arith)) e
        ∙ ap (λ (i : ℕ). (position, Discard i dep) ∷ lines_from s words position (n + 1 + suc site) (drop (suc site) xs)) (omega arith)
        ∙ ap (λ (i : ℕ). (position, Discard (n + suc site) dep) ∷ lines_from s words position i (drop (suc site) xs)) (omega arith)

    -- no further line
    pub no-line : (sites : List SiteState) (n from : ℕ) → ((i : ℕ) → from ≤ i → broken_at s words sites i ≡ None) → lines_from s words position n (drop from sites) ≡ []
    unfolding lines_from
    no-line [] n zero h = refl
    no-line [] n (suc from) h = refl
    no-line (x ∷ xs) n zero h =
        ap (λ (r : Option Dep). discard_line position n r ++ lines_from s words position (n + 1) xs) (h 0 (omega arith))
        ∙ no-line xs (n + 1) zero (λ i low. h (suc i) (omega arith))
    no-line (x ∷ xs) n (suc from) h = no-line xs n from (λ i low. h (suc i) (omega arith))

  pub all-left : (sites : List SiteState) → ((i : ℕ) → broken_at s words sites i ≡ None) → unbroken_sites s words sites ≡ sites
  unfolding unbroken_sites
  all-left [] h = refl
  all-left (x ∷ xs) h =
      ap (λ (r : Option Dep). unless_broken r x ∷ unbroken_sites s words xs) (h 0) ∙ ap (λ (rest : List SiteState). x ∷ rest) (all-left xs (λ i. h (suc i)))

  pub are-unbroken : (sites : List SiteState) → ((i : ℕ) → broken_at s words sites i ≡ None) → AreUnbroken s words sites
  are-unbroken sites h = record { left = all-left sites h; none = λ position. no-line position sites 0 0 (λ i low. h i) }

  left-by : (state : SiteState) (r : Option Dep) → broken_by s words state ≡ r → broken_by s words (unless_broken r state) ≡ None
  left-by state None e = e
  left-by state (Some dep) e = discarded-none state

  left-none : (sites : List SiteState) (i : ℕ) → broken_at s words (unbroken_sites s words sites) i ≡ None
  unfolding unbroken_sites
  left-none [] i = refl
  left-none (x ∷ xs) zero = left-by x (broken_by s words x) refl
  left-none (x ∷ xs) (suc i) = left-none xs i

  pub unbroken-left : (sites : List SiteState) → AreUnbroken s words (unbroken_sites s words sites)
  unbroken-left sites = are-unbroken (unbroken_sites s words sites) (left-none sites)

-- A step of the loop, and its end

same-count : (sites : List SiteState) (site : ℕ) → length (with_event sites site discarded) ≡ length sites
same-count [] site = refl
same-count (x ∷ xs) zero = refl
same-count (x ∷ xs) (suc site) = ap suc (same-count xs site)

module _ (s : Shape) (words : List ℕ) (sites : List SiteState) (from : ℕ) (below : (i : ℕ) → i < from → broken_at s words sites i ≡ None) where
  module _ (site : ℕ) (dep : Dep) (found : IsFirstSite s words sites from site dep) where
    abbrev after : List SiteState
    after = with_event sites site discarded

    pub here : broken_at s words sites site ≡ Some dep
    here = found-at s words sites site dep found.here

    before : (i : ℕ) → from ≤ i → i < site → broken_at s words sites i ≡ None
    before i low high = none-at s words sites i (found.before i low high)

    pub found-within : site < length sites
    found-within = within s words sites site dep here

    pub found-count : length after ≡ length sites
    found-count = same-count sites site

    pub found-less : plan_count after + 1 ≡ plan_count sites
    found-less = one-less s words sites site dep here

    pub found-left : unbroken_sites s words after ≡ unbroken_sites s words sites
    found-left = same-left s words sites site dep here

    up-to : (i : ℕ) → i < site → broken_at s words sites i ≡ None
    up-to i high = by (nat_lt i from) refl
      where
        by : (b : Bool) → nat_lt i from ≡ b → broken_at s words sites i ≡ None
        by true e = below i (grind (arith, e))
        by false e = before i (grind (arith, e)) high

    pub found-below : (i : ℕ) → i < site + 1 → broken_at s words after i ≡ None
    found-below i high = by (nat_lt i site) refl
      where
        by : (b : Bool) → nat_lt i site ≡ b → broken_at s words after i ≡ None
        by true e = still-none s words sites site i (up-to i (grind (arith, e)))
        by false e = let same : i ≡ site = grind (arith, e, high) in subst (λ (j : ℕ). broken_at s words after j ≡ None) (sym same) (now-none s words sites site)

    after-rest : drop (site + 1) after ≡ drop (site + 1) sites
    after-rest =
        let one : suc site ≡ site + 1 = omega arith in
        subst (λ (i : ℕ). drop i after ≡ drop i sites) one (same-rest s words sites site)

    from-here : (position : ℕ) → lines_from s words position from (drop from sites) ≡ (position, Discard site dep) ∷ lines_from s words position (site + 1) (drop (site + 1) sites)
    from-here position =
        let start : from ≡ 0 + from = omega arith in
        let at : 0 + site ≡ site = omega arith in
        let next : 0 + suc site ≡ site + 1 = omega arith in
        let one : suc site ≡ site + 1 = omega arith in
        ap (λ (i : ℕ). lines_from s words position i (drop from sites)) start
        ∙ (next-line s words position sites 0 from site dep found.on before here
        ∙ (ap (λ (i : ℕ). (position, Discard i dep) ∷ lines_from s words position (0 + suc site) (drop (suc site) sites)) at
        ∙ (ap (λ (i : ℕ). (position, Discard site dep) ∷ lines_from s words position i (drop (suc site) sites)) next
        ∙ ap (λ (i : ℕ). (position, Discard site dep) ∷ lines_from s words position (site + 1) (drop i sites)) one)))

    pub found-line : (position : ℕ) (lines : List (ℕ × Line)) → (lines ++ (position, Discard site dep) ∷ []) ++ lines_from s words position (site + 1) (drop (site + 1) after) ≡ lines ++ lines_from s words position from (drop from sites)
    found-line position lines =
        append_assoc lines ((position, Discard site dep) ∷ []) (lines_from s words position (site + 1) (drop (site + 1) after))
        ∙ ap (λ (xs : List (ℕ × Line)). lines ++ xs)
        (ap (λ (xs : List SiteState). (position, Discard site dep) ∷ lines_from s words position (site + 1) xs) after-rest ∙ sym (from-here position))

  module _ (none : IsNextBroken s words sites from None) where
    all-none : (i : ℕ) → broken_at s words sites i ≡ None
    all-none i = by (nat_lt i from) refl
      where
        by : (b : Bool) → nat_lt i from ≡ b → broken_at s words sites i ≡ None
        by true e = below i (grind (arith, e))
        by false e = none-at s words sites i (none i (grind (arith, e)))

    pub end-left : unbroken_sites s words sites ≡ sites
    end-left = all-left s words sites all-none

    pub end-lines : (position : ℕ) (lines : List (ℕ × Line)) → lines ++ lines_from s words position from (drop from sites) ≡ lines
    end-lines position lines = ap (λ (xs : List (ℕ × Line)). lines ++ xs) (no-line s words position sites from from (λ i low. all-none i)) ∙ append-nil lines

at-most : (plan : Option Plan) → one_plan plan ≤ 1
at-most None = omega arith
at-most (Some plan) = omega arith

pub plans-few : PlansAreFew
unfolding plan_count
plans-few [] = omega arith
plans-few (x ∷ xs) = let one = at-most x.plan in let rest = plans-few xs in omega (arith, one, rest)

-- Other events, and new sites

other-one : (state : SiteState) (event : Event) → InstallsNone event → one_plan (after_event state event).plan ≤ one_plan state.plan
other-one state (noted map) h = omega arith
other-one state (forgotten map) h = omega arith
other-one state (filled entry) h = omega arith
other-one state (installed plan) h = absurd h
other-one state discarded h = omega arith

pub events-count : OtherEventsAddNoPlan
unfolding plan_count
events-count [] site event h = omega arith
events-count (x ∷ xs) zero event h = let one = other-one x event h in omega (arith, one)
events-count (x ∷ xs) (suc site) event h = let rest = events-count xs site event h in omega (arith, rest)

pub new-count : NewSitesCountNone
unfolding plan_count
new-count [] what = refl
new-count (x ∷ xs) what = ap (λ (n : ℕ). one_plan x.plan + n) (new-count xs what)
