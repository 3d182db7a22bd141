-- The nearest property of a name (ECMA-262, 10.1.8.1 and 10.1.9.2 walk to it).
use Rattle.std.specs.Prelude.{ℕ, zero, suc, length, Option, Some, None}
use Rattle.hc_value.specs.declared.prop.Prop.{Prop}
use Rattle.hc_table.specs.World.{World, object, property_of}

-- a property, and the object that has it
pub record Nearest : Type 0 where
  pub holder : ℕ
  pub property : Prop

-- an own property comes before what is further on
abbrev pub own_or_further : ℕ → Option Prop → Option Nearest → Option Nearest
own_or_further o (Some p) further = Some (record { holder = o; property = p })
own_or_further o None further = further

-- the first property of a name on the chain, among so many objects of it
abbrev pub nearest_among : ℕ → World → Option ℕ → ℕ → Option Nearest
nearest_among n w None name = None
nearest_among zero w (Some o) name = None
nearest_among (suc n) w (Some o) name =
    own_or_further o (property_of (object w o).props name) (nearest_among n w (object w o).proto name)

-- the nearest property of a name: the first on the object and then along its prototypes
abbrev pub nearest : World → ℕ → ℕ → Option Nearest
nearest w o name = nearest_among (length w) w (Some o) name
