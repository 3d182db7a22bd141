-- A plan that answers as full lookup.
use Rattle.std.specs.Prelude.{◌≡◌, ℕ, Option, Some, List}
use Rattle.std.specs.List.{AllByRecursion}
use Rattle.hc_value.specs.declared.value.Value.{Value}
use Rattle.hc_heap.specs.Writes.{Trail}
use Rattle.hc_heap.specs.Readings.{map_in}
use Rattle.hc_ops.specs.Get.{get_reply}
use Rattle.hc_ops.specs.Set.{set_act}
use Rattle.hc_plan.specs.declared.case.Case.{Case}
use Rattle.hc_plan.specs.declared.case.Op.{Op}
use Rattle.hc_plan.specs.declared.case.Op.TheVariants.{Load, Store}
use Rattle.hc_plan.specs.declared.plan.Plan.{Plan}
use Rattle.hc_soundness.specs.Answers.{load_answer, store_answer}
use Rattle.hc_soundness.specs.Meaning.{Dictionary, world}

-- for each object that has the case's map, the case answers as the ordinary operation on the objects' property tables; to a store of
-- any value it gives that reply, and does what that does, so the next tables are the same too
abbrev pub IsRightCase : Trail → List (Option Dictionary) → Op → ℕ → Case → Type 0
IsRightCase t kept Load name case =
    (o : ℕ) → map_in t o ≡ Some case.map → load_answer t o case.way ≡ Some (get_reply (world t kept) o name)
IsRightCase t kept Store name case =
    (o : ℕ) (v : Value) → map_in t o ≡ Some case.map → store_answer t name o v case.way ≡ Some (set_act (world t kept) o name v)

-- a plan is right: each of its cases is
abbrev pub IsRight : Trail → List (Option Dictionary) → Plan → Type 0
IsRight t kept plan = AllByRecursion (IsRightCase t kept plan.op plan.name) plan.cases
