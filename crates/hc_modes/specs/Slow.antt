-- The changes of slow objects that take no memory, as what tables do.
use Rattle.std.specs.Prelude.{◌≡◌, ℕ, ◌<◌, ⊤, false, Some, length}
use Rattle.hc_value.specs.Prop.{kind_of}
use Rattle.hc_dict.specs.declared.dictionary.Change.{Change}
use Rattle.hc_dict.specs.declared.dictionary.Change.TheVariants.{Write, Put, Remove, Link, Lock, Restrict}
use Rattle.hc_table.specs.Attributes.{IsProper}
use Rattle.hc_table.specs.Changes.{Did, Wrote, Reconfigured, Removed, Linked, Locked, Restricted, IsThere, kind_at, name_at, reaches}
use Rattle.hc_table.specs.Ranges.{IsHeldInRange}
use Rattle.hc_table.specs.World.{World, props_at}

-- what it does to an object
abbrev pub did_of : ℕ → Change → Did
did_of o (Write i held) = Wrote o i held
did_of o (Put i p) = Reconfigured o i p
did_of o (Remove i) = Removed o i
did_of o (Link proto) = Linked o proto
did_of o Lock = Locked o
did_of o (Restrict frozen) = Restricted o frozen

-- an object that is slow may be changed so
abbrev pub MayBeSlow : World → ℕ → Change → Type 0
MayBeSlow w o (Write i held) = (kind_at (props_at w o) i ≡ Some (kind_of held)) × IsHeldInRange held
MayBeSlow w o (Put i p) = (name_at (props_at w o) i ≡ Some p.name) × IsProper p
MayBeSlow w o (Remove i) = i < length (props_at w o)
MayBeSlow w o (Link proto) = IsThere w proto × (reaches w proto o ≡ false)
MayBeSlow w o _ = ⊤
