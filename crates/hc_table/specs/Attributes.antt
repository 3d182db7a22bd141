-- The attributes of a property, one by one (ECMA-262, 6.1.7.1: each is the contrary of one of the standard's).
use Rattle.std.specs.Prelude.{◌≡◌, ℕ, ◌+◌, ◌<◌, Bool, true, false, ◌==◌, ◌||◌, ◌&&◌}
use Rattle.std.specs.Int.RustNames.{bit_and}
use Rattle.hc_value.specs.Attrs.{bits_of, is_read_only}
use Rattle.hc_value.specs.declared.attrs.Attrs.{Attrs}
use Rattle.hc_value.specs.declared.prop.Held.{Held}
use Rattle.hc_value.specs.declared.prop.Held.TheVariants.{Datum, Pair}
use Rattle.hc_value.specs.declared.prop.Prop.{Prop}
use Rattle.hc_table.specs.Numbers.{IsNameNumber}
use Rattle.hc_table.specs.Ranges.{IsHeldInRange}

-- not enumerable
abbrev pub is_dont_enum : Attrs → Bool
is_dont_enum attrs = bit_and (bits_of attrs) 2 == 2

-- not configurable
abbrev pub is_dont_delete : Attrs → Bool
is_dont_delete attrs = bit_and (bits_of attrs) 4 == 4

abbrev pub bit_if : Bool → ℕ → ℕ
bit_if true bit = bit
bit_if false bit = 0

-- the attributes that are set where the answers say so: ReadOnly, DontEnum, DontDelete
abbrev pub attributes_of : Bool → Bool → Bool → Attrs
attributes_of read_only dont_enum dont_delete =
    record { 0 = bit_if read_only 1 + bit_if dont_enum 2 + bit_if dont_delete 4 }

abbrev pub is_datum : Held → Bool
is_datum (Datum value) = true
is_datum (Pair getter setter) = false

-- an accessor is never read-only
abbrev pub IsClear : Held → Attrs → Type 0
IsClear (Datum value) attrs = Unit {0}
IsClear (Pair getter setter) attrs = is_read_only attrs ≡ false

-- a property that may be kept: its name has a number, it has the three attributes alone, an accessor isn't read-only, and
-- a word can hold what the property holds
pub record IsProper (p : Prop) : Type 0 where
  pub name : IsNameNumber p.name
  pub attributes : bits_of p.attrs < 8
  pub clear : IsClear p.held p.attrs
  pub range : IsHeldInRange p.held

-- a property of an object whose integrity is set (ECMA-262, 7.3.16, SetIntegrityLevel): not configurable, and where it is
-- frozen and holds a value, not writable either
abbrev pub restricted : Bool → Prop → Prop
restricted frozen p =
    record p { attrs = attributes_of (is_read_only p.attrs || (frozen && is_datum p.held)) (is_dont_enum p.attrs) true }
