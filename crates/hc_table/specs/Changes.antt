-- What one call does to the objects.
use Rattle.std.specs.Prelude.{ℕ, zero, suc, ◌<◌, Bool, true, false, List, [], ◌∷◌, length, map, Option, Some, None, option_map, IfSome, if◌then◌else◌, ◌==◌, slice_get, slice_set}
use Rattle.hc_value.specs.Prop.{kind_of}
use Rattle.hc_value.specs.declared.prop.Held.{Held}
use Rattle.hc_value.specs.declared.prop.Kind.{Kind}
use Rattle.hc_value.specs.declared.prop.Prop.{Prop}
use Rattle.hc_table.specs.Attributes.{restricted}
use Rattle.hc_table.specs.World.{Object, World, object, props_at, with_props, with_object, with_added, with_written}

-- the name, and the kind, of the property at a place
abbrev pub name_at : List Prop → ℕ → Option ℕ
name_at ps i = option_map (λ p. p.name) (slice_get ps i)

abbrev pub kind_at : List Prop → ℕ → Option Kind
kind_at ps i = option_map (λ p. kind_of p.held) (slice_get ps i)

-- the properties without the one at a place
abbrev pub removed_at : List Prop → ℕ → List Prop
removed_at [] i = []
removed_at (p ∷ ps) zero = ps
removed_at (p ∷ ps) (suc i) = p ∷ removed_at ps i

abbrev pub with_link : Object → Option ℕ → Object
with_link o proto = record o { proto = proto }

abbrev pub locked : Object → Object
locked o = record o { extensible = false }

-- an object whose integrity is set (ECMA-262, 7.3.16, SetIntegrityLevel): sealed, or frozen
abbrev pub restricted_object : Object → Bool → Object
restricted_object o frozen = record o { extensible = false; props = map (restricted frozen) o.props }

-- the world where an object has another property at a place
abbrev pub with_property : World → ℕ → ℕ → Prop → World
with_property w o i p = with_props w o (slice_set (props_at w o) i p)

-- the world where an object lacks the property at a place
abbrev pub with_removed : World → ℕ → ℕ → World
with_removed w o i = with_props w o (removed_at (props_at w o) i)

-- the world where an object has another prototype
abbrev pub with_proto : World → ℕ → Option ℕ → World
with_proto w o proto = slice_set w o (with_link (object w o) proto)

-- the world where an object gets no further property
abbrev pub with_lock : World → ℕ → World
with_lock w o = slice_set w o (locked (object w o))

-- the world where an object is sealed or frozen
abbrev pub with_integrity : World → ℕ → Bool → World
with_integrity w o frozen = slice_set w o (restricted_object (object w o) frozen)

-- null, or an object that is there
abbrev pub IsThere : World → Option ℕ → Type 0
IsThere w proto = IfSome proto (λ p. p < length w)

-- whether the chain that begins here comes to an object, among so many objects of it
abbrev pub reaches_among : ℕ → World → Option ℕ → ℕ → Bool
reaches_among n w None o = false
reaches_among zero w (Some q) o = false
reaches_among (suc n) w (Some q) o = if q == o then true else reaches_among n w (object w q).proto o

-- whether the chain that begins here comes to an object
abbrev pub reaches : World → Option ℕ → ℕ → Bool
reaches w proto o = reaches_among (length w) w proto o

-- what was done between two states: nothing, moves that change no meaning, or one changing call with its arguments
pub data Did : Type 0 where
  Nothing : Did
  Moved : Did
  Created : Option ℕ → Did
  Added : ℕ → Prop → Did
  Wrote : ℕ → ℕ → Held → Did
  Reconfigured : ℕ → ℕ → Prop → Did
  Removed : ℕ → ℕ → Did
  Linked : ℕ → Option ℕ → Did
  Locked : ℕ → Did
  Restricted : ℕ → Bool → Did

-- the world after it
abbrev pub after : Did → World → World
after Nothing w = w
after Moved w = w
after (Created proto) w = with_object w proto
after (Added o p) w = with_added w o p
after (Wrote o i held) w = with_written w o i held
after (Reconfigured o i p) w = with_property w o i p
after (Removed o i) w = with_removed w o i
after (Linked o proto) w = with_proto w o proto
after (Locked o) w = with_lock w o
after (Restricted o frozen) w = with_integrity w o frozen
