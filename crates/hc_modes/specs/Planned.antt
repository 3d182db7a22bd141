-- What a plan knows of an object before it gives it a property.
use Rattle.std.specs.Prelude.{◌≡◌, ℕ, ◌<◌, true, false, Option, Some, None, List, length}
use Rattle.hc_value.specs.declared.value.Value.{Value}
use Rattle.hc_heap.specs.Readings.{bits_in, map_in}
use Rattle.hc_heap.specs.States.{View}
use Rattle.hc_table.specs.World.{World, object, place_of, props_at}
use Rattle.hc_slots.specs.Meaning.{Dictionary}
use Rattle.hc_modes.specs.Admitting.{IsChildWith}
use Rattle.hc_modes.specs.Filling.{HasSlotFor}
use Rattle.hc_modes.specs.Meaning.{world}
use Rattle.hc_modes.specs.State.{IsObjects}

-- an object has a map that isn't deprecated, whose newest child for a name isn't either, and its last field admits a value as it is;
-- and there is a slot for it
pub record MayCome (v : View) (o child name : ℕ) (value : Value) : Type 0 where
  pub map : ℕ
  pub has : map_in v.trail o ≡ Some map
  pub live : (bits_in v.trail map).deprecated ≡ false
  pub grows : IsChildWith v.trail map child name value
  pub room : HasSlotFor v o grows.slot

-- an object lacks a name, and may get properties
pub record MayGet (w : World) (o name : ℕ) : Type 0 where
  pub absent : place_of (props_at w o) name ≡ None
  pub extensible : (object w o).extensible ≡ true

-- an object that may come to a child for a name lacks that, and may get properties
abbrev pub ComersMayGet : Type 0
ComersMayGet = (v : View) (kept : List (Option Dictionary)) (of_null : Option ℕ) (o child name : ℕ) (value : Value) → IsObjects v kept of_null → o < length kept → MayCome v o child name value
    → MayGet (world v.trail kept) o name
