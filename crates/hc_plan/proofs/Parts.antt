-- The dependencies of cases, part by part.
use Rattle.std.proofs.Common.{◌≡◌, Bool, [], ◌∷◌, refl}
use Rattle.std.specs.List.{list_all}
use Rattle.std.proofs.lemmas.List.Folds.{list_all-append, list_all-map}
use Rattle.hc_plan.specs.declared.case.Case.{Case}
use Rattle.hc_plan.specs.declared.deps.Dep.{Dep}
use Rattle.hc_plan.specs.declared.deps.Dep.TheVariants.{Stable}
use Rattle.hc_plan.specs.Chains.{Hop}
use Rattle.hc_plan.specs.Deps.{way_deps, stables, case_deps, deps_of}
use Rattle.hc_plan.specs.Laws.{case_passes, DepsAreOfCases}

case-parts : (test : Dep → Bool) (case : Case) → list_all test (case_deps case) ≡ case_passes test case
case-parts test case = rw (list_all-append test (stables case.chain) (way_deps case.way), list_all-map test (λ (hop : Hop). Stable hop.1) case.chain) refl

pub deps-parts : DepsAreOfCases
deps-parts test [] = refl
deps-parts test (case ∷ cases) = rw (list_all-append test (case_deps case) (deps_of cases), case-parts test case, deps-parts test cases) refl
