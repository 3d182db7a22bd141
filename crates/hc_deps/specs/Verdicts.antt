-- What becomes of a job's outcome, and of the plans of sites.
use Rattle.std.specs.Prelude.{◌≡◌, ℕ, ◌+◌, ◌*◌, ◌≤◌, ◌<◌, Option, Some, None, IfSome, IsSomeAnd, List, [], ◌∷◌, ◌++◌, length}
use Rattle.std.specs.List.{AllByRecursion}
use Rattle.hc_layout.specs.declared.shape.Shape.{Shape}
use Rattle.hc_plan.specs.declared.deps.Dep.{Dep}
use Rattle.hc_plan.specs.declared.plan.Plan.{Plan}
use Rattle.hc_question.specs.declared.outcome.Outcome.{Outcome}
use Rattle.hc_question.specs.declared.outcome.Outcome.TheVariants.{Planned, NoPlan}
use Rattle.hc_sites.specs.Events.{installed}
use Rattle.hc_sites.specs.State.{plan_at, with_event}
use Rattle.hc_sites.specs.declared.state.SiteState.{SiteState}
use Rattle.hc_deps.specs.declared.verdict.Verdict.{Verdict}
use Rattle.hc_deps.specs.declared.verdict.Verdict.TheVariants.{Installed, Refused, NoPlan as NoVerdict}
use Rattle.hc_deps.specs.Holds.{Holds, HoldsButValue}

-- the first dependency of which P doesn't hold
pub record IsFirstBroken (P : Dep → Type 0) (deps : List Dep) (dep : Dep) : Type 0 where
  pub before : List Dep
  pub after : List Dep
  pub are : deps ≡ before ++ dep ∷ after
  pub hold : AllByRecursion P before
  pub broken : P dep → ⊥

-- a plan is installed where all its dependencies hold, and else refused with the first that doesn't
abbrev pub IsVerdict : Shape → List ℕ → Outcome → Verdict → Type 0
IsVerdict s words (Planned plan) Installed = AllByRecursion (Holds s words) plan.deps
IsVerdict s words (Planned plan) (Refused dep) = IsFirstBroken (Holds s words) plan.deps dep
IsVerdict s words (NoPlan why) (NoVerdict same) = same ≡ why
IsVerdict s words _ _ = ⊥

-- a plan that is installed is its site's, in the place of an earlier one; else no site changes
abbrev pub sites_after : List SiteState → ℕ → Outcome → Verdict → List SiteState
sites_after sites site (Planned plan) Installed = with_event sites site (installed plan)
sites_after sites site _ _ = sites

-- each dependency of a plan other than a value holds
abbrev pub IsUnbroken : Shape → List ℕ → Plan → Type 0
IsUnbroken s words plan = AllByRecursion (HoldsButValue s words) plan.deps

-- the plan of a site is broken, the first from a site on, by the first dependency other than a value that doesn't hold
pub record IsFirstSite (s : Shape) (words : List ℕ) (sites : List SiteState) (from site : ℕ) (dep : Dep) : Type 0 where
  pub on : from ≤ site
  pub before : (other : ℕ) → from ≤ other → other < site → IfSome (plan_at sites other) (IsUnbroken s words)
  pub here : IsSomeAnd (plan_at sites site) (λ plan. IsFirstBroken (HoldsButValue s words) plan.deps dep)

-- which site's plan is the next broken one; none where there is none
abbrev pub IsNextBroken : Shape → List ℕ → List SiteState → ℕ → Option (ℕ × Dep) → Type 0
IsNextBroken s words sites from None = (site : ℕ) → from ≤ site → IfSome (plan_at sites site) (IsUnbroken s words)
IsNextBroken s words sites from (Some found) = IsFirstSite s words sites from found.0 found.1

-- the most looks that an outcome's verdict takes
abbrev pub verdict_looks : Outcome → ℕ
verdict_looks (Planned plan) = 3 * length plan.deps
verdict_looks (NoPlan why) = 0

-- how many dependencies a plan has
abbrev pub deps_count : Option Plan → ℕ
deps_count None = 0
deps_count (Some plan) = length plan.deps

-- how many the plans of these sites have together
abbrev pub all_deps_count : List SiteState → ℕ
all_deps_count [] = 0
all_deps_count (state ∷ states) = deps_count state.plan + all_deps_count states
