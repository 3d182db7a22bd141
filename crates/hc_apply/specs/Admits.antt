-- Which receivers and values a case admits.
use Rattle.std.specs.Prelude.{◌≡◌, ℕ, ◌+◌, ◌<◌, ◌≤◌, ⊤, ◌⊎◌, if◌then◌else◌, Option, Some, None, IsSomeAnd, List}
use Rattle.hc_layout.specs.Capacity.{cap_of}
use Rattle.hc_layout.specs.declared.capacity.TheConstants.{MAX_FAST}
use Rattle.hc_layout.specs.declared.shape.Shape.{Shape}
use Rattle.hc_layout.specs.declared.words.MapBits.{MapBits}
use Rattle.hc_value.specs.Field.{rep_of, join_of, joined_class}
use Rattle.hc_value.specs.declared.field.Class.{Class}
use Rattle.hc_value.specs.declared.field.Class.TheVariants.{Of, Any}
use Rattle.hc_value.specs.declared.field.Rep.{Rep}
use Rattle.hc_value.specs.declared.value.Value.{Value}
use Rattle.hc_value.specs.declared.value.Value.TheVariants.{Obj}
use Rattle.hc_plan.specs.declared.case.Case.{Case}
use Rattle.hc_plan.specs.declared.case.Way.{Way}
use Rattle.hc_plan.specs.declared.case.Way.TheVariants.{StoreOwn, Add}
use Rattle.hc_deps.specs.Image.{bits_on, map_on, store_on}

-- the class of the objects of a map: any where the map is unstable
abbrev pub class_by : ℕ → Option MapBits → Class
class_by map None = Any
class_by map (Some bits) = if bits.unstable then Any else Of map

abbrev pub class_of_map : Shape → List ℕ → Option ℕ → Class
class_of_map s words None = Any
class_of_map s words (Some map) = class_by map (bits_on s words map)

-- the class of a value: that of a fast object's map
abbrev pub class_on : Shape → List ℕ → Value → Class
class_on s words (Obj object) = class_of_map s words (map_on s words object)
class_on s words _ = Any

-- a field admits a value where joining it with the value's leaves the field's representation and class as they are
pub record AdmitsValue (s : Shape) (words : List ℕ) (field_rep : Rep) (field_class : Class) (value : Value) : Type 0 where
  pub rep : join_of (rep_of value) field_rep ≡ field_rep
  pub class : joined_class field_class (class_on s words value) ≡ field_class

-- an object has a slot of this number, or there is room for the slots that it gets with one more property
abbrev pub HasSlot : Shape → List ℕ → ℕ → ℕ → ℕ → Type 0
HasSlot s words room object slot = IsSomeAnd (store_on s words object) (λ store. (slot < store.capacity) ⊎ (cap_of (slot + 1) ≤ room))

-- a store that adds a property: its field admits the value, and there is a slot for it
pub record AdmitsAdd (s : Shape) (words : List ℕ) (room object slot : ℕ) (field_rep : Rep) (field_class : Class) (value : Value) : Type 0 where
  pub field : AdmitsValue s words field_rep field_class value
  pub place : HasSlot s words room object slot

-- which values a way admits: a store to a field, only those that the field admits
abbrev pub AdmitsBy : Shape → List ℕ → ℕ → ℕ → Option Value → Way → Type 0
AdmitsBy s words room object value (StoreOwn slot field rep class) = IsSomeAnd value (AdmitsValue s words rep class)
AdmitsBy s words room object value (Add child slot field rep class) = IsSomeAnd value (AdmitsAdd s words room object slot rep class)
AdmitsBy s words room object value _ = ⊤

-- a case admits the receivers of its map, and the values that its way admits
pub record Admits (s : Shape) (words : List ℕ) (room object : ℕ) (value : Option Value) (case : Case) : Type 0 where
  pub map : map_on s words object ≡ Some case.map
  pub way : AdmitsBy s words room object value case.way

abbrev pub Refuses : Shape → List ℕ → ℕ → ℕ → Option Value → Case → Type 0
Refuses s words room object value case = Admits s words room object value case → ⊥

-- a property that is added is one of those that a fast object may have
abbrev pub IsPlaceOf : Way → Type 0
IsPlaceOf (Add child slot field rep class) = slot < MAX_FAST
IsPlaceOf _ = ⊤
