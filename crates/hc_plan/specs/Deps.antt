-- The dependencies of a plan.
use Rattle.std.specs.Prelude.{ℕ, List, [], ◌∷◌, ◌++◌, map, flat_map}
use Rattle.hc_value.specs.declared.field.Rep.{Rep}
use Rattle.hc_value.specs.declared.field.Class.{Class}
use Rattle.hc_value.specs.declared.field.Class.TheVariants.{Of, Any}
use Rattle.hc_plan.specs.Chains.{Hop}
use Rattle.hc_plan.specs.declared.case.Case.{Case}
use Rattle.hc_plan.specs.declared.case.Way.{Way}
use Rattle.hc_plan.specs.declared.case.Way.TheVariants.{Own, Holder, Constant, Absent, Getter, StoreOwn, Add, Setter, Reject}
use Rattle.hc_plan.specs.declared.deps.Dep.{Dep}
use Rattle.hc_plan.specs.declared.deps.Dep.TheVariants.{Live, Stable, Rep as HasRep, Const as IsConst, Class as HasClass, Value as HasValue}

-- the maps of a chain stay those of their objects while they are stable
abbrev pub stables : List Hop → List Dep
stables chain = map (λ hop. Stable hop.1) chain

-- a class is depended on where it isn't any
abbrev pub class_deps : ℕ → Class → List Dep
class_deps field (Of map) = HasClass field (Of map) ∷ []
class_deps field Any = []

-- what a store depends on of its field
abbrev pub field_deps : ℕ → Rep → Class → List Dep
field_deps field rep class = HasRep field rep ∷ class_deps field class

-- what each way depends on
abbrev pub way_deps : Way → List Dep
way_deps (Own slot field rep) = HasRep field rep ∷ []
way_deps (Holder object slot field rep) = HasRep field rep ∷ []
way_deps (Constant object slot field rep word) = HasRep field rep ∷ IsConst field ∷ HasValue object slot word ∷ []
way_deps Absent = []
way_deps (Getter object slot) = []
way_deps (StoreOwn slot field rep class) = field_deps field rep class
way_deps (Add child slot field rep class) = Live child ∷ field_deps field rep class
way_deps (Setter object slot) = []
way_deps Reject = []

-- the dependencies of a case: its map is live, the maps of its chain are stable, and then its way's
abbrev pub case_deps : Case → List Dep
case_deps case = Live case.map ∷ stables case.chain ++ way_deps case.way

-- the dependencies of a plan: those of its cases, in order, and no other
abbrev pub deps_of : List Case → List Dep
deps_of cases = flat_map case_deps cases
