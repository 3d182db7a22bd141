-- The changes of a slow object that take no memory.
use Rattle.std.specs.Prelude.{◌≡◌, ◌<◌, ⊤, false, List, Some, length, map, slice_set}
use Rattle.hc_value.specs.declared.prop.Prop.{Prop}
use Rattle.hc_table.specs.Attributes.{restricted}
use Rattle.hc_table.specs.Changes.{name_at, removed_at}
use Rattle.hc_table.specs.World.{held_at}
use Rattle.hc_dict.specs.declared.dictionary.Change.{Change}
use Rattle.hc_dict.specs.declared.dictionary.Change.TheVariants.{Write, Put, Remove, Link, Lock, Restrict}
use Rattle.hc_dict.specs.declared.dictionary.Dictionary.{Dictionary}

-- an object with these properties may be changed so: a place is there, and a property that is put in another's place has its name
abbrev pub MayChange : List Prop → Change → Type 0
MayChange ps (Write i held) = i < length ps
MayChange ps (Put i p) = name_at ps i ≡ Some p.name
MayChange ps (Remove i) = i < length ps
MayChange ps _ = ⊤

-- the object after it
abbrev pub changed : Dictionary → Change → Dictionary
changed d (Write i held) = record d { props = held_at d.props i held }
changed d (Put i p) = record d { props = slice_set d.props i p }
changed d (Remove i) = record d { props = removed_at d.props i }
changed d (Link proto) = record d { proto = proto }
changed d Lock = record d { extensible = false }
changed d (Restrict frozen) = record d { extensible = false; props = map (restricted frozen) d.props }
