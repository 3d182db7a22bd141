-- Why an installed plan is right, each law the contract of a function of `laws.rt`.
use Rattle.std.specs.Prelude.{◌≡◌, ℕ, false, Option, Some, List, [], ◌∷◌}
use Rattle.std.specs.List.{AllByRecursion}
use Rattle.hc_layout.specs.declared.shape.Shape.{Shape}
use Rattle.hc_value.specs.declared.field.Detail.{Detail}
use Rattle.hc_value.specs.declared.field.Rep.{Rep}
use Rattle.hc_value.specs.declared.key.Key.{Key}
use Rattle.hc_heap.specs.Kept.{GoesOn}
use Rattle.hc_heap.specs.Readings.{bits_in, detail_in, map_in}
use Rattle.hc_heap.specs.States.{View}
use Rattle.hc_heap.specs.Writes.{Trail}
use Rattle.hc_descs.specs.Entries.{field_at}
use Rattle.hc_plan.specs.Deps.{deps_of}
use Rattle.hc_plan.specs.declared.case.Case.{Case}
use Rattle.hc_plan.specs.declared.case.Op.{Op}
use Rattle.hc_plan.specs.declared.case.Op.TheVariants.{Load}
use Rattle.hc_plan.specs.declared.case.Way.TheVariants.{Own}
use Rattle.hc_plan.specs.declared.plan.Plan.{Plan}
use Rattle.hc_soundness.specs.Borne.{IsBorne, NamesLive}
use Rattle.hc_facts.specs.Constants.{ConstantsStay}
use Rattle.hc_deps.specs.Trails.{HoldsIn, HoldsButValueIn}
use Rattle.hc_soundness.specs.Finding.{Finds, IsDatum}
use Rattle.hc_soundness.specs.Meaning.{Dictionary, IsObjects, AreCalm}
use Rattle.hc_soundness.specs.Moments.{IsToldNow, IsSeen}
use Rattle.hc_soundness.specs.Readable.{IsReadable}
use Rattle.hc_soundness.specs.Rest.{IsRest}
use Rattle.hc_soundness.specs.Right.{IsRight}

-- at rest, a borne plan answers as full lookup
abbrev pub BorneIsRight : Type 0
BorneIsRight = (v : View) (kept : List (Option Dictionary)) (plan : Plan) → IsRest v kept → IsBorne v.shape v.trail plan → IsRight v.trail kept plan

-- no map that a borne plan names is deprecated
abbrev pub BorneNamesLive : Type 0
BorneNamesLive = (v : View) (kept : List (Option Dictionary)) (plan : Plan) → IsRest v kept → IsBorne v.shape v.trail plan → AllByRecursion (NamesLive v.trail) plan.cases

-- at rest, a plan of cases that the words of this moment tell is borne: each of its dependencies holds
abbrev pub ToldIsBorne : Type 0
ToldIsBorne = (v : View) (kept : List (Option Dictionary)) (plan : Plan) → IsRest v kept → plan.deps ≡ deps_of plan.cases
    → AllByRecursion (IsToldNow v.trail plan.op plan.name) plan.cases → IsBorne v.shape v.trail plan

-- at rest, a plan of cases that words seen at any moments up to now tell is borne where each of its dependencies holds
abbrev pub SeenIsBorne : Type 0
SeenIsBorne = (v : View) (kept : List (Option Dictionary)) (plan : Plan) → IsRest v kept → plan.deps ≡ deps_of plan.cases
    → AllByRecursion (IsSeen v.shape v.trail plan.op plan.name) plan.cases → AllByRecursion (HoldsIn v.shape v.trail) plan.deps
    → IsBorne v.shape v.trail plan

-- what the words of one moment tell was seen, at each later moment
abbrev pub ToldIsSeen : Type 0
ToldIsSeen = (s : Shape) (old new : Trail) (op : Op) (name : ℕ) (case : Case) → GoesOn s old new → IsToldNow old op name case → IsSeen s new op name case

-- what was seen stays so
abbrev pub SeenIsKept : Type 0
SeenIsKept = (s : Shape) (old new : Trail) (op : Op) (name : ℕ) (case : Case) → GoesOn s old new → IsSeen s old op name case → IsSeen s new op name case

-- at a later rest, where constants stayed, a plan that was borne is borne as long as each of its dependencies holds that isn't on the
-- word of a slot
abbrev pub BorneIsKept : Type 0
BorneIsKept = (old : Trail) (v : View) (kept : List (Option Dictionary)) (plan : Plan) → IsRest v kept → GoesOn v.shape old v.trail → ConstantsStay old v.trail
    → IsBorne v.shape old plan → AllByRecursion (HoldsButValueIn v.shape v.trail) plan.deps → IsBorne v.shape v.trail plan

-- what the answer of a told case reads of an object with the case's map is there, and of its form
abbrev pub ToldIsReadable : Type 0
ToldIsReadable = (v : View) (kept : List (Option Dictionary)) (op : Op) (name : ℕ) (case : Case) (o : ℕ) → IsRest v kept → IsToldNow v.trail op name case
    → map_in v.trail o ≡ Some case.map → IsReadable v.shape v.trail o case.way

-- the plan of one site with one case
abbrev pub plan_of : ℕ → Op → ℕ → Case → Plan
plan_of site op name case = record { site = site; op = op; name = name; cases = case ∷ []; deps = deps_of (case ∷ []) }

-- a load of data that the receivers of a map have themselves
abbrev pub own_case : ℕ → ℕ → ℕ → Rep → Case
own_case m k f rep = record { map = m; chain = []; way = Own k f rep }

-- there are borne plans: at rest, wherever a map that isn't deprecated has data of the name, the load of it
abbrev pub OwnIsBorne : Type 0
OwnIsBorne = (v : View) (kept : List (Option Dictionary)) (site name m k f : ℕ) (key : Key) (d : Detail) → IsRest v kept → (bits_in v.trail m).deprecated ≡ false
    → Finds v.trail m name k key → IsDatum key → field_at v.trail m k ≡ Some f → detail_in v.trail f ≡ Some d
    → IsBorne v.shape v.trail (plan_of site Load name (own_case m k f d.rep))

-- the objects of a session are at rest where no prototype's map is unstable
abbrev pub ObjectsRest : Type 0
ObjectsRest = (v : View) (kept : List (Option Dictionary)) (of_null : Option ℕ) → IsObjects v kept of_null → AreCalm v.trail → IsRest v kept
