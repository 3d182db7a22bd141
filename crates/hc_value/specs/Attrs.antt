-- Attributes of a property, as the bits of a number.
use Rattle.std.specs.Prelude.{ℕ, Bool, ◌==◌}
use Rattle.std.specs.Int.RustNames.{bit_and}
use Rattle.hc_value.specs.declared.attrs.Attrs.{Attrs}

-- the attributes as a number
abbrev pub bits_of : Attrs → ℕ
bits_of attrs = attrs.0

-- no attribute is set: writable, enumerable and configurable
abbrev pub no_attributes : Attrs
no_attributes = record { 0 = 0 }

abbrev pub is_read_only : Attrs → Bool
is_read_only attrs = bit_and (bits_of attrs) 1 == 1
