-- What `Plain` keeps.
use Rattle.std.specs.Prelude.{ℕ, List, map}
use Rattle.hc_table.specs.declared.plain.PlainObject.{PlainObject}
use Rattle.hc_table.specs.Kept.{Kept}
use Rattle.hc_table.specs.World.{Object}

-- an object as its list of properties
abbrev pub object_of : PlainObject → Object
object_of o = record { proto = o.proto; extensible = o.extensible; props = o.props.items }

-- the objects as a world
abbrev pub kept_by : List PlainObject → ℕ → Kept
kept_by objects limit = record { world = map object_of objects; limit = limit }
