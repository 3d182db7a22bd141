-- How many dependencies the plans of sites have.
use Rattle.std.proofs.Common.{◌≡◌, ℕ, zero, suc, ◌+◌, ◌<◌, ◌≤◌, Bool, true, false, List, [], ◌∷◌, length, take, refl, arith, add-one}
use Rattle.std.specs.Prelude.{Option, Some, None, IfSome, MatchOption, nat_lt}
use Rattle.hc_plan.specs.declared.plan.Plan.{Plan}
use Rattle.hc_sites.specs.State.{plan_at}
use Rattle.hc_sites.specs.declared.state.SiteState.{SiteState}
use Rattle.hc_deps.specs.Verdicts.{deps_count, all_deps_count}

count-suc : (states : List SiteState) (i : ℕ) → all_deps_count (take (suc i) states) ≡ all_deps_count (take i states) + deps_count (plan_at states i)
count-suc [] zero = refl
count-suc [] (suc i) = refl
count-suc (state ∷ states) zero = omega arith
count-suc (state ∷ states) (suc i) = let more = count-suc states i in omega arith

pub count-more : (states : List SiteState) (i : ℕ) → all_deps_count (take (i + 1) states) ≡ all_deps_count (take i states) + deps_count (plan_at states i)
count-more states i = rw (add-one i) (count-suc states i)

pub count-all : (states : List SiteState) (i : ℕ) → all_deps_count (take i states) ≤ all_deps_count states
count-all [] zero = omega arith
count-all [] (suc i) = omega arith
count-all (state ∷ states) zero = omega arith
count-all (state ∷ states) (suc i) = let rest = count-all states i in omega arith

plan-past : (states : List SiteState) (i : ℕ) → length states ≤ i → plan_at states i ≡ None
plan-past [] i h = refl
plan-past (state ∷ states) zero h = absurd (omega arith)
plan-past (state ∷ states) (suc i) h = plan-past states i (omega arith)

-- there was no value, so what holds then does
pub none-by : {T : Type 0} (P : Type 0) (Q : T → Type 0) (o : Option T) → ((x : T) → o ≡ Some x → ⊥) → MatchOption o P Q → P
none-by P Q None none h = h
none-by P Q (Some x) none h = absurd (none x refl)

pub some-by : {T : Type 0} (P : Type 0) (Q : T → Type 0) (o : Option T) (x : T) → o ≡ Some x → MatchOption o P Q → Q x
some-by P Q o x e h = rw e at h

module _ (P : Plan → Type 0) (states : List SiteState) (from : ℕ) where
  -- one site more has a plan of which P holds, if any
  pub more-sites : (site : ℕ) → ((other : ℕ) → from ≤ other → other < site → IfSome (plan_at states other) P) → IfSome (plan_at states site) P
      → (other : ℕ) → from ≤ other → other < site + 1 → IfSome (plan_at states other) P
  more-sites site before here other h k = by (nat_lt other site) refl
    where
      by : (b : Bool) → nat_lt other site ≡ b → IfSome (plan_at states other) P
      by true e = before other h (grind (arith, e))
      by false e = let same : other ≡ site = grind (arith, e, k) in rw same here

  -- all sites do
  pub all-sites : (site : ℕ) → length states ≤ site → ((other : ℕ) → from ≤ other → other < site → IfSome (plan_at states other) P)
      → (other : ℕ) → from ≤ other → IfSome (plan_at states other) P
  all-sites site end before other h = by (nat_lt other site) refl
    where
      by : (b : Bool) → nat_lt other site ≡ b → IfSome (plan_at states other) P
      by true e = before other h (grind (arith, e))
      by false e = let past : length states ≤ other = grind (arith, e, end) in rw (plan-past states other past) tt
