-- Objects as plain ordered property tables with prototype links (ECMA-262, 6.1.7 and 10.1).
use Rattle.std.specs.Prelude.{◌≡◌, ℕ, zero, suc, ◌<◌, Bool, true, List, [], ◌∷◌, ◌++◌, length, Option, Some, None, option_map, if◌then◌else◌, ◌==◌, slice_index_or, slice_set}
use Rattle.hc_value.specs.declared.prop.Held.{Held}
use Rattle.hc_value.specs.declared.prop.Prop.{Prop}

-- an object: its prototype (an object's number, or null), whether it may get properties, and its properties in order
pub record Object : Type 0 where
  pub proto : Option ℕ
  pub extensible : Bool
  pub props : List Prop

-- the objects, each at its number
abbrev pub World : Type 0
World = List Object

-- a new object with a prototype
abbrev pub new_object : Option ℕ → Object
new_object proto = record { proto = proto; extensible = true; props = [] }

-- the object of a number (a new one where there is none)
abbrev pub object : World → ℕ → Object
object w o = slice_index_or w o (new_object None)

-- the properties of an object, in order
abbrev pub props_at : World → ℕ → List Prop
props_at w o = (object w o).props

-- where the property of a name stands
abbrev pub place_of : List Prop → ℕ → Option ℕ
place_of [] name = None
place_of (p ∷ ps) name = if p.name == name then Some 0 else option_map suc (place_of ps name)

-- the property of a name
abbrev pub property_of : List Prop → ℕ → Option Prop
property_of [] name = None
property_of (p ∷ ps) name = if p.name == name then Some p else property_of ps name

-- an object with other properties
abbrev pub with_list : Object → List Prop → Object
with_list o props = record o { props = props }

-- the world where an object has other properties
abbrev pub with_props : World → ℕ → List Prop → World
with_props w o props = slice_set w o (with_list (object w o) props)

-- a property that holds something else
abbrev pub holding : Prop → Held → Prop
holding p held = record p { held = held }

-- the properties, of which the one at a place holds something else
abbrev pub held_at : List Prop → ℕ → Held → List Prop
held_at [] i held = []
held_at (p ∷ ps) zero held = holding p held ∷ ps
held_at (p ∷ ps) (suc i) held = p ∷ held_at ps i held

-- the world with a new last object
abbrev pub with_object : World → Option ℕ → World
with_object w proto = w ++ new_object proto ∷ []

-- the world where an object has a new last property
abbrev pub with_added : World → ℕ → Prop → World
with_added w o p = with_props w o (props_at w o ++ p ∷ [])

-- the world where an object's property at a place holds something else
abbrev pub with_written : World → ℕ → ℕ → Held → World
with_written w o i held = with_props w o (held_at (props_at w o) i held)

-- no two properties have one name
abbrev pub HaveDistinctNames : List Prop → Type 0
HaveDistinctNames [] = Unit {0}
HaveDistinctNames (p ∷ ps) = (place_of ps p.name ≡ None) × HaveDistinctNames ps

-- from here the prototypes lead to null, past at most so many objects
abbrev pub LeadsToNull : ℕ → World → Option ℕ → Type 0
LeadsToNull n w None = Unit {0}
LeadsToNull zero w (Some o) = ⊥
LeadsToNull (suc n) w (Some o) = (o < length w) × LeadsToNull n w (object w o).proto

-- what holds of each world: names differ, and from each object the prototypes lead to null
pub record IsWorld (w : World) : Type 0 where
  pub names : (o : ℕ) → HaveDistinctNames (props_at w o)
  pub chains : (o : ℕ) → o < length w → LeadsToNull (length w) w (Some o)
