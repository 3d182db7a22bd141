-- The numbers of a command.
use Rattle.std.specs.Prelude.{◌≡◌, ℕ, ◌<◌, false, ◌&&◌, ◌||◌, Option, Some, None, is_some}
use Rattle.hc_value.specs.declared.value.Value.{Value}
use Rattle.hc_value.specs.declared.value.Value.TheVariants.{Undefined, Null, Bool as Boolean, Int, Text, Obj}
use Rattle.hc_value.specs.declared.prop.PropDesc.{PropDesc}
use Rattle.hc_commands.specs.Definition.{IsGivenAccessor}
use Rattle.hc_commands.specs.declared.command.Command.{Command}
use Rattle.hc_commands.specs.declared.command.Command.TheVariants.{New, Get, Set, Define, Has, Own, Delete, Keys, Proto, SetProto, Extensible, Lock, Seal, Freeze, Shape, Same, Declare, Exec, Compile, Step, During, Finish}

-- the value's text has a number below this one
abbrev pub IsValueBelow : ℕ → Value → Type 0
IsValueBelow count (Text text) = text < count
IsValueBelow count Undefined = Unit {0}
IsValueBelow count Null = Unit {0}
IsValueBelow count (Boolean b) = Unit {0}
IsValueBelow count (Int integer) = Unit {0}
IsValueBelow count (Obj o) = Unit {0}

-- the same of a value that may be given
abbrev pub IsGivenBelow : ℕ → Option Value → Type 0
IsGivenBelow count None = Unit {0}
IsGivenBelow count (Some value) = IsValueBelow count value

-- the text of a definition has a number below this one, its functions are in range, and it is of one kind at most
pub record IsDescriptorBelow (count : ℕ) (d : PropDesc) : Type 0 where
  pub value : IsGivenBelow count d.value
  pub getter : IsGivenAccessor d.getter
  pub setter : IsGivenAccessor d.setter
  pub one_kind : (is_some d.value || is_some d.writable) && (is_some d.getter || is_some d.setter) ≡ false

-- the names and texts of a command have numbers below this one, and its definition is one that may be made
abbrev pub IsCommandBelow : ℕ → Command → Type 0
IsCommandBelow count (Get o name) = name < count
IsCommandBelow count (Set o name value) = (name < count) × IsValueBelow count value
IsCommandBelow count (Define o name d) = (name < count) × IsDescriptorBelow count d
IsCommandBelow count (Has o name) = name < count
IsCommandBelow count (Own o name) = name < count
IsCommandBelow count (Delete o name) = name < count
IsCommandBelow count (Declare op name) = name < count
IsCommandBelow count (Exec s o value) = IsGivenBelow count value
IsCommandBelow count (New proto) = Unit {0}
IsCommandBelow count (Keys o) = Unit {0}
IsCommandBelow count (Proto o) = Unit {0}
IsCommandBelow count (SetProto o proto) = Unit {0}
IsCommandBelow count (Extensible o) = Unit {0}
IsCommandBelow count (Lock o) = Unit {0}
IsCommandBelow count (Seal o) = Unit {0}
IsCommandBelow count (Freeze o) = Unit {0}
IsCommandBelow count (Shape o) = Unit {0}
IsCommandBelow count (Same o p) = Unit {0}
IsCommandBelow count (Compile s) = Unit {0}
IsCommandBelow count (Step j reads) = Unit {0}
IsCommandBelow count (During c j reads) = Unit {0}
IsCommandBelow count (Finish j) = Unit {0}
