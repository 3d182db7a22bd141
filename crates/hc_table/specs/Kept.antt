-- What is kept: the objects, and the most objects that there may be.
use Rattle.std.specs.Prelude.{◌≡◌, ℕ, ◌<◌, ◌≤◌, false, Some, None, length, ⊤}
use Rattle.std.specs.List.{AllByRecursion}
use Rattle.hc_value.specs.Prop.{kind_of}
use Rattle.hc_table.specs.Attributes.{IsProper}
use Rattle.hc_table.specs.Changes.{Did, Nothing, Moved, Created, Added, Wrote, Reconfigured, Removed, Linked, Locked, Restricted, after, IsThere, name_at, kind_at, reaches}
use Rattle.hc_table.specs.Ranges.{IsHeldInRange}
use Rattle.hc_table.specs.World.{World, IsWorld, props_at, place_of}

pub record Kept : Type 0 where
  pub world : World
  pub limit : ℕ

-- the same limit, with another world
abbrev pub with_world : Kept → World → Kept
with_world kept w = record kept { world = w }

-- names differ and prototypes lead to null, each property may be kept, and there are at most as many objects as the limit
pub record IsKept (kept : Kept) : Type 0 where
  pub sound : IsWorld kept.world
  pub proper : (o : ℕ) → AllByRecursion IsProper (props_at kept.world o)
  pub room : length kept.world ≤ kept.limit

-- the world changed as was done, and the limit stayed
pub record Came (a : Kept) (did : Did) (b : Kept) : Type 0 where
  pub world : b.world ≡ after did a.world
  pub limit : b.limit ≡ a.limit

-- what a call asks of the objects, so that they stay sound
abbrev pub MayDo : Kept → Did → Type 0
MayDo kept Nothing = ⊤
MayDo kept Moved = ⊤
MayDo kept (Created proto) = IsThere kept.world proto × (length kept.world < kept.limit)
MayDo kept (Added o p) = (place_of (props_at kept.world o) p.name ≡ None) × IsProper p
MayDo kept (Wrote o i held) = (kind_at (props_at kept.world o) i ≡ Some (kind_of held)) × IsHeldInRange held
MayDo kept (Reconfigured o i p) = (name_at (props_at kept.world o) i ≡ Some p.name) × IsProper p
MayDo kept (Removed o i) = ⊤
MayDo kept (Linked o proto) = (o < length kept.world) × IsThere kept.world proto × (reaches kept.world proto o ≡ false)
MayDo kept (Locked o) = ⊤
MayDo kept (Restricted o frozen) = ⊤

-- the objects stay sound after a call that may be made, the contract of a function of `laws.rt`
abbrev pub ChangesKeep : Type 0
ChangesKeep = (kept : Kept) (did : Did) → IsKept kept → MayDo kept did → IsKept (with_world kept (after did kept.world))
