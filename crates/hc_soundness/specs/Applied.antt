-- What a plan's answer comes to on the objects' property tables.
use Rattle.std.specs.Prelude.{◌≡◌, ◌↔◌, ℕ, ⊤, Option, Some, None, IsSome, List}
use Rattle.std.specs.List.{AllByRecursion}
use Rattle.hc_board.specs.States.{WriterState}
use Rattle.hc_board.specs.Trail.{image_of}
use Rattle.hc_layout.specs.Shape.{words_of}
use Rattle.hc_value.specs.Attrs.{no_attributes}
use Rattle.hc_value.specs.declared.prop.Held.TheVariants.{Datum}
use Rattle.hc_value.specs.declared.value.Value.{Value}
use Rattle.hc_heap.specs.States.{View, IsDesk}
use Rattle.hc_table.specs.Changes.{Nothing, Added, Wrote}
use Rattle.hc_table.specs.World.{World}
use Rattle.hc_ops.specs.Act.{does}
use Rattle.hc_ops.specs.Get.{get_reply}
use Rattle.hc_ops.specs.Set.{set_act}
use Rattle.hc_plan.specs.declared.case.Case.{Case}
use Rattle.hc_plan.specs.declared.case.Op.TheVariants.{Store}
use Rattle.hc_plan.specs.declared.plan.Plan.{Plan}
use Rattle.hc_apply.specs.Admits.{IsPlaceOf}
use Rattle.hc_apply.specs.Answers.{CanAnswer, IsApplied}
use Rattle.hc_apply.specs.declared.applied.Applied.{Applied}
use Rattle.hc_apply.specs.declared.applied.Applied.TheVariants.{Answer, StoreAt, AddBy, Miss}
use Rattle.hc_soundness.specs.Borne.{IsBorne}
use Rattle.hc_soundness.specs.Meaning.{Dictionary, world}
use Rattle.hc_soundness.specs.Rest.{IsRest}

-- an answer is that of the ordinary operation: to a load its reply; to a store of a value its reply where nothing is done, the write
-- of the receiver's property in its place, or the property that it adds
abbrev pub IsAnswerOf : World → ℕ → ℕ → Option Value → Applied → Type 0
IsAnswerOf w o name value Miss = ⊤
IsAnswerOf w o name None (Answer number reply) = reply ≡ get_reply w o name
IsAnswerOf w o name (Some v) (Answer number reply) = set_act w o name v ≡ record { reply = reply; did = Nothing }
IsAnswerOf w o name (Some v) (StoreAt number slot) = set_act w o name v ≡ does (Wrote o slot (Datum v))
IsAnswerOf w o name (Some v) (AddBy number child) = set_act w o name v ≡ does (Added o (record { name = name; attrs = no_attributes; held = Datum v }))
IsAnswerOf w o name None _ = ⊥

-- at rest, what a borne plan answers is the answer of the ordinary operation
abbrev pub AppliedIsRight : Type 0
AppliedIsRight = (v : View) (d : WriterState) (kept : List (Option Dictionary)) (plan : Plan) (room o : ℕ) (value : Option Value) (applied : Applied) → IsRest v kept → IsDesk v d
    → IsBorne v.shape v.trail plan → IsSome value ↔ plan.op ≡ Store → IsApplied v.shape (image_of (words_of v.shape) d.trail) room o value plan.cases applied
    → IsAnswerOf (world v.trail kept) o plan.name value applied

-- what the use of a plan asks of its cases
pub record CanApply (v : View) (d : WriterState) (plan : Plan) (room o : ℕ) (value : Option Value) : Type 0 where
  pub places : AllByRecursion (λ (case : Case). IsPlaceOf case.way) plan.cases
  pub readable : AllByRecursion (CanAnswer v.shape (image_of (words_of v.shape) d.trail) room o value) plan.cases

-- at rest, a borne plan can be used
abbrev pub BorneCanApply : Type 0
BorneCanApply = (v : View) (d : WriterState) (kept : List (Option Dictionary)) (plan : Plan) (room o : ℕ) (value : Option Value) → IsRest v kept → IsDesk v d → IsBorne v.shape v.trail plan
    → IsSome value ↔ plan.op ≡ Store → CanApply v d plan room o value
