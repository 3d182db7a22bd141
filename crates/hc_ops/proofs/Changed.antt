-- What a definition leaves may be kept.
use Rattle.std.proofs.Common.{◌≡◌, ℕ, ◌<◌, Bool, true, false, not, Option, Some, None, if◌then◌else◌, refl, arith}
use Rattle.std.specs.Prelude.{IfSome}
use Rattle.hc_value.specs.Attrs.{bits_of, is_read_only}
use Rattle.hc_value.specs.Word.{IsInRange}
use Rattle.hc_value.specs.declared.value.Value.{Value}
use Rattle.hc_value.specs.declared.value.Value.TheVariants.{Undefined}
use Rattle.hc_value.specs.declared.prop.Held.{Held}
use Rattle.hc_value.specs.declared.prop.Held.TheVariants.{Datum, Pair}
use Rattle.hc_value.specs.declared.prop.Prop.{Prop}
use Rattle.hc_value.specs.declared.prop.PropDesc.{PropDesc}
use Rattle.hc_table.specs.Attributes.{attributes_of, is_dont_enum, is_dont_delete, IsClear, IsProper}
use Rattle.hc_table.specs.Ranges.{IsFunctionInRange, IsHeldInRange}
use Rattle.hc_ops.specs.Define.{changed, given, IsDescInRange, held_after, read_only_after, is_data, is_accessor}

writable-of : (b c : Bool) → is_read_only (attributes_of false b c) ≡ false
writable-of true true = refl
writable-of true false = refl
writable-of false true = refl
writable-of false false = refl

below_eight : (a b c : Bool) → bits_of (attributes_of a b c) < 8
below_eight true true true = omega arith
below_eight true true false = omega arith
below_eight true false true = omega arith
below_eight true false false = omega arith
below_eight false true true = omega arith
below_eight false true false = omega arith
below_eight false false true = omega arith
below_eight false false false = omega arith

-- what becomes an accessor, or stays one, is not read-only
clear-after : (held : Held) (read_only b c : Bool) (d : PropDesc) → IsClear (held_after held d) (attributes_of (read_only_after held read_only d) b c)
clear-after (Datum value) read_only b c d = by (is_accessor d)
  where
    by : (t : Bool) → IsClear (if t then Pair (given d.getter None) (given d.setter None) else Datum (given d.value value)) (attributes_of (if t then false else not (given d.writable (not read_only))) b c)
    by true = writable-of b c
    by false = tt
clear-after (Pair getter setter) read_only b c d = by (is_data d)
  where
    by : (t : Bool) → IsClear (if t then Datum (given d.value Undefined) else Pair (given d.getter getter) (given d.setter setter)) (attributes_of (if t then not (given d.writable false) else false) b c)
    by true = tt
    by false = writable-of b c

-- a field that is given is in range, and so is what stands where it isn't
value-given : (asked : Option Value) (now : Value) → IfSome asked IsInRange → IsInRange now → IsInRange (given asked now)
value-given None now a n = n
value-given (Some v) now a n = a

function-given : (asked : Option (Option ℕ)) (now : Option ℕ) → IfSome asked IsFunctionInRange → IsFunctionInRange now → IsFunctionInRange (given asked now)
function-given None now a n = n
function-given (Some f) now a n = a

range-after : (held : Held) (d : PropDesc) → IsHeldInRange held → IsDescInRange d → IsHeldInRange (held_after held d)
range-after (Datum value) d h range = by (is_accessor d)
  where
    by : (t : Bool) → IsHeldInRange (if t then Pair (given d.getter None) (given d.setter None) else Datum (given d.value value))
    by true = (function-given d.getter None range.getter tt, function-given d.setter None range.setter tt)
    by false = value-given d.value value range.value h
range-after (Pair getter setter) d h range = by (is_data d)
  where
    by : (t : Bool) → IsHeldInRange (if t then Datum (given d.value Undefined) else Pair (given d.getter getter) (given d.setter setter))
    by true = value-given d.value Undefined range.value tt
    by false = (function-given d.getter getter range.getter h.0, function-given d.setter setter range.setter h.1)

pub IsProper-changed : (p : Prop) (d : PropDesc) → IsProper p → IsDescInRange d → IsProper (changed p d)
IsProper-changed p d h range = record {
  name = h.name;
  attributes = below_eight
      (read_only_after p.held (is_read_only p.attrs) d)
      (not (given d.enumerable (not (is_dont_enum p.attrs))))
      (not (given d.configurable (not (is_dont_delete p.attrs))));
  clear = clear-after p.held (is_read_only p.attrs)
      (not (given d.enumerable (not (is_dont_enum p.attrs))))
      (not (given d.configurable (not (is_dont_delete p.attrs)))) d;
  range = range-after p.held d h.range range;
}
