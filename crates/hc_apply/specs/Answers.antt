-- What a plan answers for a receiver and a value.
use Rattle.std.specs.Prelude.{◌≡◌, ℕ, ◌+◌, ◌*◌, ⊤, false, Option, Some, None, IsSome, List, slice_get, take, option_map, option_and_then}
use Rattle.std.specs.List.{AllByRecursion}
use Rattle.hc_layout.specs.declared.shape.Shape.{Shape}
use Rattle.hc_value.specs.Word.{unwide_of, untagged_of, unpair_of, integer_of}
use Rattle.hc_value.specs.declared.field.Rep.{Rep}
use Rattle.hc_value.specs.declared.field.Rep.TheVariants.{Smi, Wide, HeapObject, Tagged}
use Rattle.hc_value.specs.declared.reply.Reply.{Reply}
use Rattle.hc_value.specs.declared.reply.Reply.TheVariants.{Val, Call, CallWith, Flag}
use Rattle.hc_value.specs.declared.value.Value.{Value}
use Rattle.hc_value.specs.declared.value.Value.TheVariants.{Undefined}
use Rattle.hc_plan.specs.declared.case.Case.{Case}
use Rattle.hc_plan.specs.declared.case.Op.{Op}
use Rattle.hc_plan.specs.declared.case.Op.TheVariants.{Load, Store}
use Rattle.hc_plan.specs.declared.case.Way.{Way}
use Rattle.hc_plan.specs.declared.case.Way.TheVariants.{Own, Holder, Constant, Absent, Getter, StoreOwn, Add, Setter, Reject}
use Rattle.hc_deps.specs.Image.{slot_word_on}
use Rattle.hc_apply.specs.Admits.{Admits, Refuses}
use Rattle.hc_apply.specs.declared.applied.Applied.{Applied}
use Rattle.hc_apply.specs.declared.applied.Applied.TheVariants.{Answer, StoreAt, AddBy, Miss}

-- the value of a slot's word, by the representation of its field
abbrev pub value_by : Rep → ℕ → Option Value
value_by Smi word = untagged_of word
value_by Wide word = integer_of (unwide_of word)
value_by HeapObject word = untagged_of word
value_by Tagged word = untagged_of word

-- the object that has an accessor: the receiver itself, or an object of its chain
abbrev pub accessed : ℕ → Option ℕ → ℕ
accessed object None = object
accessed object (Some holder) = holder

-- the call of a getter with the object asked, or undefined without one (ECMA-262, 10.1.8.1)
abbrev pub got_by : ℕ → Option ℕ → Reply
got_by object None = Val Undefined
got_by object (Some getter) = Call getter object

-- the call of a setter with the object asked and the value, or false without one (ECMA-262, 10.1.9.2)
abbrev pub set_by : ℕ → Value → Option ℕ → Reply
set_by object value None = Flag false
set_by object value (Some setter) = CallWith setter object value

-- the value of an object's slot
abbrev pub value_on : Shape → List ℕ → Rep → ℕ → ℕ → Option Value
value_on s words rep object slot = option_and_then (value_by rep) (slot_word_on s words object slot)

-- the getter and the setter of an object's slot
abbrev pub pair_on : Shape → List ℕ → ℕ → ℕ → Option (Option ℕ × Option ℕ)
pair_on s words object slot = option_and_then unpair_of (slot_word_on s words object slot)

-- the reply of a way that stores nothing; none where a word that it reads isn't there or not of its form
abbrev pub reply_on : Shape → List ℕ → ℕ → Option Value → Way → Option Reply
reply_on s words object value (Own slot field rep) = option_map Val (value_on s words rep object slot)
reply_on s words object value (Holder holder slot field rep) = option_map Val (value_on s words rep holder slot)
reply_on s words object value (Constant holder slot field rep word) = option_map Val (value_by rep word)
reply_on s words object value Absent = Some (Val Undefined)
reply_on s words object value (Getter holder slot) =
    option_map (λ (pair : Option ℕ × Option ℕ). got_by object pair.0) (pair_on s words (accessed object holder) slot)
reply_on s words object value (Setter holder slot) =
    option_and_then (λ (given : Value). option_map (λ (pair : Option ℕ × Option ℕ). set_by object given pair.1) (pair_on s words (accessed object holder) slot)) value
reply_on s words object value Reject = Some (Flag false)
reply_on s words object value (StoreOwn slot field rep class) = None
reply_on s words object value (Add child slot field rep class) = None

-- what the case of a number answers by its way
abbrev pub answer_on : Shape → List ℕ → ℕ → Option Value → ℕ → Way → Option Applied
answer_on s words object value number (StoreOwn slot field rep class) = Some (StoreAt number slot)
answer_on s words object value number (Add child slot field rep class) = Some (AddBy number child)
answer_on s words object value number way = option_map (Answer number) (reply_on s words object value way)

-- each word that a way's answer reads is there, and of its form
abbrev pub IsReadable : Shape → List ℕ → ℕ → Option Value → Way → Type 0
IsReadable s words object value (StoreOwn slot field rep class) = ⊤
IsReadable s words object value (Add child slot field rep class) = ⊤
IsReadable s words object value way = IsSome (reply_on s words object value way)

-- a case that admits can be answered
abbrev pub CanAnswer : Shape → List ℕ → ℕ → ℕ → Option Value → Case → Type 0
CanAnswer s words room object value case = Admits s words room object value case → IsReadable s words object value case.way

-- the answer is that of the first case that admits
pub record IsFirstAnswer (s : Shape) (words : List ℕ) (room object : ℕ) (value : Option Value) (cases : List Case) (applied : Applied) : Type 0 where
  pub number : ℕ
  pub case : Case
  pub here : slice_get cases number ≡ Some case
  pub before : AllByRecursion (Refuses s words room object value) (take number cases)
  pub admits : Admits s words room object value case
  pub answers : answer_on s words object value number case.way ≡ Some applied

-- a plan answers by its first case that admits, and misses exactly where none does
abbrev pub IsApplied : Shape → List ℕ → ℕ → ℕ → Option Value → List Case → Applied → Type 0
IsApplied s words room object value cases Miss = AllByRecursion (Refuses s words room object value) cases
IsApplied s words room object value cases applied = IsFirstAnswer s words room object value cases applied

-- the most looks that it takes to see whether a way admits a value
abbrev pub value_looks : Option Value → ℕ
value_looks None = 0
value_looks (Some value) = 3

-- the most looks that a plan of so many cases takes
abbrev pub plan_looks : Op → ℕ → ℕ
plan_looks Load cases = 3
plan_looks Store cases = 3 * cases + 3
