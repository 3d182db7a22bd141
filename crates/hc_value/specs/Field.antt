-- What a field of a map admits.
use Rattle.std.specs.Prelude.{ℕ, ℤ, pos, negsuc, ◌*◌, ◌/◌, ◌%◌, ◌^◌, ◌<◌, ◌==◌, ◌&&◌, Bool, true, false, IsTrue, nat_lt, if◌then◌else◌, Option, Some, None}
use Rattle.hc_value.specs.declared.value.Value.{Value}
use Rattle.hc_value.specs.declared.value.Value.TheVariants.{Int}
use Rattle.hc_value.specs.declared.word.TheConstants.{NUMBER_LIMIT}
use Rattle.hc_value.specs.declared.field.Rep.{Rep}
use Rattle.hc_value.specs.declared.field.Rep.TheVariants.{Smi, Wide, HeapObject, Tagged}
use Rattle.hc_value.specs.declared.field.Constness.{Constness}
use Rattle.hc_value.specs.declared.field.Constness.TheVariants.{Const, Mutable}
use Rattle.hc_value.specs.declared.field.Class.{Class}
use Rattle.hc_value.specs.declared.field.Class.TheVariants.{Of, Any}
use Rattle.hc_value.specs.declared.field.Detail.{Detail}

-- an integer is small: from -2 ^ 30 to 2 ^ 30 - 1
abbrev pub is_small : ℤ → Bool
is_small (pos n) = nat_lt n (2 ^ 30)
is_small (negsuc n) = nat_lt n (2 ^ 30)

-- the representation of a value
abbrev pub rep_of : Value → Rep
rep_of (Int z) = if is_small z then Smi else Wide
rep_of _ = HeapObject

-- the order of representations: a field of the second holds what a field of the first holds
abbrev pub is_within : Rep → Rep → Bool
is_within _ Tagged = true
is_within Smi Smi = true
is_within Smi Wide = true
is_within Wide Wide = true
is_within HeapObject HeapObject = true
is_within _ _ = false

-- the join of two representations
abbrev pub join_of : Rep → Rep → Rep
join_of Smi Smi = Smi
join_of Smi Wide = Wide
join_of Wide Smi = Wide
join_of Wide Wide = Wide
join_of HeapObject HeapObject = HeapObject
join_of _ _ = Tagged

-- a representation is the least upper bound of two
pub record IsJoin (a b j : Rep) : Type 0 where
  pub left : IsTrue (is_within a j)
  pub right : IsTrue (is_within b j)
  pub least : (c : Rep) → IsTrue (is_within a c) → IsTrue (is_within b c) → IsTrue (is_within j c)

-- a field keeps its map when its representation changes: the slots' words stay as they are
abbrev pub in_place_of : Rep → Rep → Bool
in_place_of Smi Smi = true
in_place_of Wide Wide = true
in_place_of HeapObject HeapObject = true
in_place_of Tagged Tagged = true
in_place_of Smi Tagged = true
in_place_of HeapObject Tagged = true
in_place_of _ _ = false

-- Const is below Mutable
abbrev pub is_constness_within : Constness → Constness → Bool
is_constness_within Mutable Const = false
is_constness_within _ _ = true

-- a field stays Const only where both are
abbrev pub joined_constness : Constness → Constness → Constness
joined_constness Const Const = Const
joined_constness _ _ = Mutable

-- each class is below Any, and the classes of two maps are apart
abbrev pub is_class_within : Class → Class → Bool
is_class_within _ Any = true
is_class_within (Of m) (Of n) = m == n
is_class_within Any (Of n) = false

-- equal classes stay, and others are joined as Any
abbrev pub joined_class : Class → Class → Class
joined_class (Of m) (Of n) = if m == n then Of m else Any
joined_class _ _ = Any

-- the order of details is that of their parts
abbrev pub is_detail_within : Detail → Detail → Bool
is_detail_within d e = is_within d.rep e.rep && is_constness_within d.constness e.constness && is_class_within d.class e.class

-- a detail is joined part by part
abbrev pub joined_detail : Detail → Detail → Detail
joined_detail d e = record {
  rep = join_of d.rep e.rep;
  constness = joined_constness d.constness e.constness;
  class = joined_class d.class e.class;
}

-- a detail is the least upper bound of two
pub record IsDetailJoin (a b j : Detail) : Type 0 where
  pub left : IsTrue (is_detail_within a j)
  pub right : IsTrue (is_detail_within b j)
  pub least : (c : Detail) → IsTrue (is_detail_within a c) → IsTrue (is_detail_within b c) → IsTrue (is_detail_within j c)

-- a class may be given to a word: its map is in range
abbrev pub IsClassInRange : Class → Type 0
IsClassInRange (Of m) = m < NUMBER_LIMIT
IsClassInRange Any = Unit {0}

-- the two bits of a representation
abbrev pub rep_number : Rep → ℕ
rep_number Smi = 0
rep_number Wide = 1
rep_number HeapObject = 2
rep_number Tagged = 3

-- the representation of a number below 4
abbrev pub rep_at : ℕ → Rep
rep_at n = if n == 0 then Smi else (if n == 1 then Wide else (if n == 2 then HeapObject else Tagged))

-- the bit of a constness
abbrev pub constness_number : Constness → ℕ
constness_number Const = 0
constness_number Mutable = 1

-- the number of a class: 1 for any, and else twice its map
abbrev pub class_number : Class → ℕ
class_number (Of m) = m * 2
class_number Any = 1

-- 1 is any class, and an even number the class of the map that is its half
abbrev pub class_at : ℕ → Option Class
class_at n =
    if n == 1 then Some Any else (
    if n % 2 == 0 && nat_lt (n / 2) NUMBER_LIMIT then Some (Of (n / 2)) else None)

-- the detail with a class, of a word
abbrev pub with_class : ℕ → Option Class → Option Detail
with_class w None = None
with_class w (Some c) = Some (record { rep = rep_at (w / 2 % 4); constness = if w / 8 % 2 == 1 then Mutable else Const; class = c })

-- the detail of a word: written, two bits of representation, mutable, and then the class
unfoldable pub detail_of : ℕ → Option Detail
detail_of w = if w % 2 == 1 then with_class w (class_at (w / 16)) else None
