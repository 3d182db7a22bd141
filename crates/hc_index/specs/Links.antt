-- What an index of links knows.
use Rattle.std.specs.Prelude.{ℕ, Bool, true, false, List, Option, ◌&&◌, ◌==◌}
use Rattle.std.specs.Bool.{beq}
use Rattle.std.specs.Map.{lookup}
use Rattle.hc_value.specs.Attrs.{bits_of}
use Rattle.hc_value.specs.declared.key.Key.{Key}
use Rattle.hc_value.specs.declared.prop.Kind.{Kind}
use Rattle.hc_value.specs.declared.prop.Kind.TheVariants.{DataProp, AccessorProp}
use Rattle.hc_index.specs.declared.links.Edge.{Edge}

-- the children that were told, each under a map and a key; the room for further ones; whether each child was told
pub record LinksKnown : Type 0 where
  pub children : List (Edge × ℕ)
  pub room : ℕ
  pub whole : Bool

abbrev pub is_accessor : Kind → Bool
is_accessor DataProp = false
is_accessor AccessorProp = true

-- what a link of a map is told by
abbrev pub edge_of : ℕ → Key → Edge
edge_of map key = record { map = map; name = key.name; is_accessor = is_accessor key.kind; attributes = bits_of key.attrs }

abbrev pub same_edge : Edge → Edge → Bool
same_edge a b = a.map == b.map && (a.name == b.name && (beq a.is_accessor b.is_accessor && a.attributes == b.attributes))

-- the child that was told last for a map and a key
abbrev pub child_known : LinksKnown → ℕ → Key → Option ℕ
child_known index map key = lookup (same_edge (edge_of map key)) index.children
