-- A plan that the words of one moment bear, and the maps that it names.
use Rattle.std.specs.Prelude.{◌≡◌, ℕ, false}
use Rattle.std.specs.List.{AllByRecursion}
use Rattle.hc_layout.specs.declared.shape.Shape.{Shape}
use Rattle.hc_heap.specs.Readings.{bits_in}
use Rattle.hc_heap.specs.Writes.{Trail}
use Rattle.hc_plan.specs.Chains.{Hop}
use Rattle.hc_plan.specs.Deps.{deps_of}
use Rattle.hc_plan.specs.declared.case.Case.{Case}
use Rattle.hc_plan.specs.declared.case.Way.{Way}
use Rattle.hc_plan.specs.declared.case.Way.TheVariants.{Add}
use Rattle.hc_plan.specs.declared.plan.Plan.{Plan}
use Rattle.hc_deps.specs.Trails.{HoldsIn}
use Rattle.hc_soundness.specs.Moments.{IsToldNow}

-- a plan is borne: its dependencies are those of its cases, each case is told by the words of this moment alone, and each dependency
-- holds
pub record IsBorne (s : Shape) (t : Trail) (plan : Plan) : Type 0 where
  pub deps : plan.deps ≡ deps_of plan.cases
  pub told : AllByRecursion (IsToldNow t plan.op plan.name) plan.cases
  pub hold : AllByRecursion (HoldsIn s t) plan.deps

-- a map isn't deprecated
abbrev pub IsLive : Trail → ℕ → Type 0
IsLive t m = (bits_in t m).deprecated ≡ false

-- the child that a way names, if it names one, isn't deprecated
abbrev pub NamesLiveChild : Trail → Way → Type 0
NamesLiveChild t (Add child k f rep class) = IsLive t child
NamesLiveChild t _ = Unit {0}

-- no map that a case names is deprecated: its own, those of its chain, and the child to which it adds
pub record NamesLive (t : Trail) (case : Case) : Type 0 where
  pub map : IsLive t case.map
  pub chain : AllByRecursion (λ (hop : Hop). IsLive t hop.1) case.chain
  pub child : NamesLiveChild t case.way
