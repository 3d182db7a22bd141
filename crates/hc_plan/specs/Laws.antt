-- What holds of each dependency of a plan holds of each part of its cases, and the other way about.
use Rattle.std.specs.Prelude.{◌≡◌, Bool, ◌&&◌, List, [], ◌∷◌, ◌++◌}
use Rattle.std.specs.List.{AllByRecursion, list_all}
use Rattle.hc_plan.specs.declared.case.Case.{Case}
use Rattle.hc_plan.specs.declared.deps.Dep.{Dep}
use Rattle.hc_plan.specs.declared.deps.Dep.TheVariants.{Live, Stable}
use Rattle.hc_plan.specs.Chains.{Hop}
use Rattle.hc_plan.specs.Deps.{stables, way_deps, case_deps, deps_of}

-- a test passes at the dependencies of a case
abbrev pub case_passes : (Dep → Bool) → Case → Bool
case_passes test case = test (Live case.map) && (list_all (λ (hop : Hop). test (Stable hop.1)) case.chain && list_all test (way_deps case.way))

-- all dependencies pass a test exactly where those of each case do
abbrev pub DepsAreOfCases : Type 0
DepsAreOfCases = (test : Dep → Bool) (cases : List Case) → list_all test (deps_of cases) ≡ list_all (case_passes test) cases

-- a fact holds of the dependencies of a case
pub record CaseHolds (P : Dep → Type 0) (case : Case) : Type 0 where
  pub live : P (Live case.map)
  pub chain : AllByRecursion (λ (hop : Hop). P (Stable hop.1)) case.chain
  pub way : AllByRecursion P (way_deps case.way)

module _ (P : Dep → Type 0) where
  split : (xs ys : List Dep) → AllByRecursion P (xs ++ ys) → AllByRecursion P xs × AllByRecursion P ys
  split [] ys h = (tt, h)
  split (x ∷ xs) ys h = let rest = split xs ys h.1 in ((h.0, rest.0), rest.1)

  joined : (xs ys : List Dep) → AllByRecursion P xs → AllByRecursion P ys → AllByRecursion P (xs ++ ys)
  joined [] ys h k = k
  joined (x ∷ xs) ys h k = (h.0, joined xs ys h.1 k)

  of_hops : (chain : List Hop) → AllByRecursion P (stables chain) → AllByRecursion (λ (hop : Hop). P (Stable hop.1)) chain
  of_hops [] h = tt
  of_hops (hop ∷ chain) h = (h.0, of_hops chain h.1)

  to_hops : (chain : List Hop) → AllByRecursion (λ (hop : Hop). P (Stable hop.1)) chain → AllByRecursion P (stables chain)
  to_hops [] h = tt
  to_hops (hop ∷ chain) h = (h.0, to_hops chain h.1)

  -- what holds of the dependencies of a case holds of its parts
  pub parts_of_case : (case : Case) → AllByRecursion P (case_deps case) → CaseHolds P case
  parts_of_case case h =
      let rest = split (stables case.chain) (way_deps case.way) h.1 in
      record { live = h.0; chain = of_hops case.chain rest.0; way = rest.1 }

  -- and the other way about
  pub deps_of_parts : (case : Case) → CaseHolds P case → AllByRecursion P (case_deps case)
  deps_of_parts case h = (h.live, joined (stables case.chain) (way_deps case.way) (to_hops case.chain h.chain) h.way)

  -- what holds of all dependencies of a plan holds of each case
  pub each_case : (cases : List Case) → AllByRecursion P (deps_of cases) → AllByRecursion (CaseHolds P) cases
  each_case [] h = tt
  each_case (case ∷ cases) h =
      let rest = split (case_deps case) (deps_of cases) h in
      (parts_of_case case rest.0, each_case cases rest.1)

  -- and the other way about
  pub each_dep : (cases : List Case) → AllByRecursion (CaseHolds P) cases → AllByRecursion P (deps_of cases)
  each_dep [] h = tt
  each_dep (case ∷ cases) h = joined (case_deps case) (deps_of cases) (deps_of_parts case h.0) (each_dep cases h.1)
