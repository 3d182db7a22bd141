-- What defining a property does (ECMA-262, 10.1.6.3, ValidateAndApplyPropertyDescriptor).
use Rattle.std.specs.Prelude.{ℕ, Bool, true, false, ◌&&◌, ◌||◌, not, Option, Some, None, IfSome, is_some, if◌then◌else◌, ◌==◌}
use Rattle.std.specs.Ordering.{int_eq}
use Rattle.hc_value.specs.Attrs.{is_read_only}
use Rattle.hc_value.specs.declared.value.Value.{Value}
use Rattle.hc_value.specs.declared.value.Value.TheVariants.{Undefined, Null, Bool as Boolean, Int, Text, Obj}
use Rattle.hc_value.specs.declared.prop.Held.{Held}
use Rattle.hc_value.specs.declared.prop.Held.TheVariants.{Datum, Pair}
use Rattle.hc_value.specs.declared.prop.Prop.{Prop}
use Rattle.hc_value.specs.declared.prop.PropDesc.{PropDesc}
use Rattle.hc_value.specs.Word.{IsInRange}
use Rattle.hc_table.specs.Attributes.{attributes_of, is_dont_enum, is_dont_delete}
use Rattle.hc_table.specs.Changes.{Added, Reconfigured}
use Rattle.hc_table.specs.Ranges.{IsFunctionInRange}
use Rattle.hc_table.specs.World.{World, object, props_at}
use Rattle.hc_ops.specs.declared.walk.Found.{Found}
use Rattle.hc_ops.specs.Act.{Act, answers, does}
use Rattle.hc_ops.specs.Found.{found_in}

-- a field, or what stands where it isn't given
abbrev pub given : {X : Type 0} → Option X → X → X
given None x = x
given (Some y) x = y

-- a definition of a data property, and of an accessor (6.2.6.2 and 6.2.6.1)
abbrev pub is_data : PropDesc → Bool
is_data d = is_some d.value || is_some d.writable

abbrev pub is_accessor : PropDesc → Bool
is_accessor d = is_some d.getter || is_some d.setter

-- a definition is of one kind at most (6.2.6.5, step 10)
abbrev pub mixes_kinds : PropDesc → Bool
mixes_kinds d = is_data d && is_accessor d

-- the value and the functions that a definition gives may be given to a word
pub record IsDescInRange (d : PropDesc) : Type 0 where
  pub value : IfSome d.value IsInRange
  pub getter : IfSome d.getter IsFunctionInRange
  pub setter : IfSome d.setter IsFunctionInRange

-- what a property holds after a definition: fields that aren't given stay where the kind stays, and are undefined where
-- it changes
abbrev pub held_after : Held → PropDesc → Held
held_after (Datum value) d =
    if is_accessor d then Pair (given d.getter None) (given d.setter None) else Datum (given d.value value)
held_after (Pair getter setter) d =
    if is_data d then Datum (given d.value Undefined) else Pair (given d.getter getter) (given d.setter setter)

-- whether it is read-only then: an accessor never is, and what becomes a data property is where `writable` isn't given
abbrev pub read_only_after : Held → Bool → PropDesc → Bool
read_only_after (Datum value) read_only d = if is_accessor d then false else not (given d.writable (not read_only))
read_only_after (Pair getter setter) read_only d = if is_data d then not (given d.writable false) else false

-- the property after a definition (step 6)
abbrev pub changed : Prop → PropDesc → Prop
changed p d = record {
  name = p.name;
  attrs = attributes_of
      (read_only_after p.held (is_read_only p.attrs) d)
      (not (given d.enumerable (not (is_dont_enum p.attrs))))
      (not (given d.configurable (not (is_dont_delete p.attrs))));
  held = held_after p.held d;
}

-- what a new property is before its fields are given: undefined, and all three attributes are set (step 2)
abbrev pub blank : ℕ → Prop
blank name = record { name = name; attrs = attributes_of true true true; held = Datum Undefined }

-- the same value (SameValue; numbers of the language are integers here)
abbrev pub same_value : Value → Value → Bool
same_value Undefined Undefined = true
same_value Null Null = true
same_value (Boolean a) (Boolean b) = if a then b else not b
same_value (Int a) (Int b) = int_eq a b
same_value (Text a) (Text b) = a == b
same_value (Obj a) (Obj b) = a == b
same_value _ _ = false

-- the same function, or none
abbrev pub same_function : Option ℕ → Option ℕ → Bool
same_function None None = true
same_function None (Some b) = false
same_function (Some a) None = false
same_function (Some a) (Some b) = a == b

-- a definition asks another flag, value or function than there is
abbrev pub asks_flag : Option Bool → Bool → Bool
asks_flag None now = false
asks_flag (Some asked) now = if asked then not now else now

abbrev pub asks_value : Option Value → Value → Bool
asks_value None now = false
asks_value (Some asked) now = not (same_value asked now)

abbrev pub asks_function : Option (Option ℕ) → Option ℕ → Bool
asks_function None now = false
asks_function (Some asked) now = not (same_function asked now)

-- another kind, another function of an accessor, or of data that is read-only to be writable or another value (steps 5.c to 5.e)
abbrev pub conflicts : Held → Bool → PropDesc → Bool
conflicts (Datum value) read_only d =
    is_accessor d || (read_only && (asks_flag d.writable false || asks_value d.value value))
conflicts (Pair getter setter) read_only d = is_data d || asks_function d.getter getter || asks_function d.setter setter

-- what isn't configurable refuses to be configurable, another `enumerable`, and what conflicts (step 5)
abbrev pub is_refused : Prop → PropDesc → Bool
is_refused p d =
    is_dont_delete p.attrs
    && (asks_flag d.configurable false
    || asks_flag d.enumerable (not (is_dont_enum p.attrs))
    || conflicts p.held (is_read_only p.attrs) d)

-- an absent name: an extensible object gets a last property (steps 1 and 2)
abbrev pub define_new : World → ℕ → ℕ → PropDesc → Act
define_new w o name d = if (object w o).extensible then does (Added o (changed (blank name) d)) else answers false

abbrev pub define_found : World → ℕ → ℕ → PropDesc → Option Found → Act
define_found w o name d None = define_new w o name d
define_found w o name d (Some found) =
    if is_refused found.property d
    then answers false
    else does (Reconfigured o found.place (changed found.property d))

abbrev pub define_act : World → ℕ → ℕ → PropDesc → Act
define_act w o name d = define_found w o name d (found_in (props_at w o) name)
