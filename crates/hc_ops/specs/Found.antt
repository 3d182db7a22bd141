-- An object's own property of a name, with its place (ECMA-262, 10.1.5.1, OrdinaryGetOwnProperty).
use Rattle.std.specs.Prelude.{ℕ, suc, List, [], ◌∷◌, Option, Some, None, option_map, if◌then◌else◌, ◌==◌}
use Rattle.hc_value.specs.declared.prop.Prop.{Prop}
use Rattle.hc_value.specs.declared.reply.Reply.{Reply}
use Rattle.hc_value.specs.declared.reply.Reply.TheVariants.{Property}
use Rattle.hc_table.specs.World.{World, props_at, property_of}
use Rattle.hc_ops.specs.declared.walk.Found.{Found}

-- one place on
abbrev pub further : Found → Found
further found = record found { place = suc found.place }

-- the property of a name, and its place
abbrev pub found_in : List Prop → ℕ → Option Found
found_in [] name = None
found_in (p ∷ ps) name =
    if p.name == name then Some (record { place = 0; property = p }) else option_map further (found_in ps name)

-- the reply is the own property, if there is one
abbrev pub own_reply : World → ℕ → ℕ → Reply
own_reply w o name = Property (property_of (props_at w o) name)
