-- What reading a property gives (ECMA-262, 10.1.8.1, OrdinaryGet).
use Rattle.std.specs.Prelude.{ℕ, Option, Some, None}
use Rattle.hc_value.specs.declared.value.Value.TheVariants.{Undefined}
use Rattle.hc_value.specs.declared.prop.Held.{Held}
use Rattle.hc_value.specs.declared.prop.Held.TheVariants.{Datum, Pair}
use Rattle.hc_value.specs.declared.reply.Reply.{Reply}
use Rattle.hc_value.specs.declared.reply.Reply.TheVariants.{Val, Call}
use Rattle.hc_table.specs.World.{World}
use Rattle.hc_ops.specs.Nearest.{Nearest, nearest}

-- a value, or the call of the getter with the object asked
abbrev pub read_of : ℕ → Held → Reply
read_of o (Datum value) = Val value
read_of o (Pair None setter) = Val Undefined
read_of o (Pair (Some getter) setter) = Call getter o

abbrev pub read_nearest : ℕ → Option Nearest → Reply
read_nearest o None = Val Undefined
read_nearest o (Some found) = read_of o found.property.held

-- the nearest property's value or getter's call; undefined where there is none
abbrev pub get_reply : World → ℕ → ℕ → Reply
get_reply w o name = read_nearest o (nearest w o name)
