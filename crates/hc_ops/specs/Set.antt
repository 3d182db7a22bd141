-- What writing a property does (ECMA-262, 10.1.9.2, OrdinarySetWithOwnDescriptor, with the object as receiver).
use Rattle.std.specs.Prelude.{ℕ, true, false, Option, Some, None, if◌then◌else◌, ◌==◌}
use Rattle.hc_value.specs.Attrs.{no_attributes, is_read_only}
use Rattle.hc_value.specs.declared.attrs.Attrs.{Attrs}
use Rattle.hc_value.specs.declared.value.Value.{Value}
use Rattle.hc_value.specs.declared.prop.Held.{Held}
use Rattle.hc_value.specs.declared.prop.Held.TheVariants.{Datum, Pair}
use Rattle.hc_value.specs.declared.reply.Reply.TheVariants.{CallWith}
use Rattle.hc_table.specs.Changes.{Nothing, Added, Wrote}
use Rattle.hc_table.specs.World.{World, object, props_at, place_of}
use Rattle.hc_ops.specs.Act.{Act, answers, does}
use Rattle.hc_ops.specs.Nearest.{Nearest, nearest}

-- an extensible object gets a last property that is writable, enumerable and configurable
abbrev pub create_act : World → ℕ → ℕ → Value → Act
create_act w o name value =
    if (object w o).extensible
    then does (Added o (record { name = name; attrs = no_attributes; held = Datum value }))
    else answers false

-- an own property is written, also with the value that it has
abbrev pub write_act : ℕ → Value → Option ℕ → Act
write_act o value None = answers true
write_act o value (Some i) = does (Wrote o i (Datum value))

-- a writable data property: an own one gets the value, and one of a prototype is hidden by a new one
abbrev pub writable_act : World → ℕ → ℕ → Value → ℕ → Act
writable_act w o name value holder =
    if holder == o then write_act o value (place_of (props_at w o) name) else create_act w o name value

-- by what the nearest property holds; a setter is called with the object
abbrev pub nearest_act : World → ℕ → ℕ → Value → ℕ → Attrs → Held → Act
nearest_act w o name value holder attrs (Datum old) =
    if is_read_only attrs then answers false else writable_act w o name value holder
nearest_act w o name value holder attrs (Pair getter None) = answers false
nearest_act w o name value holder attrs (Pair getter (Some setter)) =
    record { reply = CallWith setter o value; did = Nothing }

abbrev pub act_at : World → ℕ → ℕ → Value → Option Nearest → Act
act_at w o name value None = create_act w o name value
act_at w o name value (Some found) =
    nearest_act w o name value found.holder found.property.attrs found.property.held

abbrev pub set_act : World → ℕ → ℕ → Value → Act
set_act w o name value = act_at w o name value (nearest w o name)
