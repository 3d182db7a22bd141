-- What a way of an inline cache answers.
use Rattle.std.specs.Prelude.{◌≡◌, ℕ, ◌<◌, true, ◌&&◌, ◌==◌, if◌then◌else◌, List, Option, Some, None, length, slice_get, IsSomeAnd}
use Rattle.hc_value.specs.declared.prop.Prop.{Prop}
use Rattle.hc_value.specs.declared.reply.Reply.{Reply}
use Rattle.hc_value.specs.declared.reply.Reply.TheVariants.{Val}
use Rattle.hc_value.specs.declared.value.Value.TheVariants.{Undefined}
use Rattle.hc_heap.specs.Writes.{Trail}
use Rattle.hc_heap.specs.Readings.{prototype_in}
use Rattle.hc_descs.specs.Entries.{IsOpenMap, LacksName, count_of}
use Rattle.hc_table.specs.Changes.{IsThere}
use Rattle.hc_table.specs.World.{World, place_of, props_at}
use Rattle.hc_ops.specs.Get.{read_of}
use Rattle.hc_slots.specs.Meaning.{Dictionary}
use Rattle.hc_modes.specs.Came.{world_of}
use Rattle.hc_modes.specs.Meaning.{kept_of}
use Rattle.hc_modes.specs.State.{ObjectsState}
use Rattle.hc_plan.specs.declared.case.Op.TheVariants.{Load}
use Rattle.hc_plan.specs.declared.case.Site.{Site}
use Rattle.hc_sites.specs.declared.cached.Cached.{Cached}
use Rattle.hc_sites.specs.declared.cached.CacheWay.{CacheWay}
use Rattle.hc_sites.specs.declared.cached.CacheWay.TheVariants.{Own, Holder, Absent}
use Rattle.hc_access.specs.Accesses.{is_writable, where_fast}
use Rattle.hc_access.specs.Entries.{is_unbroken}
use Rattle.hc_access.specs.Spots.{Place, place_from}

-- the way of an entry that may be used for a map
abbrev pub way_for : Trail → Option Cached → ℕ → Option CacheWay
way_for t None m = None
way_for t (Some entry) m = if (entry.map == m) && is_unbroken t entry.cell then Some entry.way else None

-- what reading a property gives, where an object was asked
abbrev pub read_property : ℕ → Option Prop → Reply
read_property o (Some p) = read_of o p.held
read_property o None = Val Undefined

abbrev pub reply_by : World → ℕ → CacheWay → Reply
reply_by w o (Own i) = read_property o (slice_get (props_at w o) i)
reply_by w o (Holder h i) = read_property o (slice_get (props_at w h) i)
reply_by w o Absent = Val Undefined

-- the way leads to a property that is there
abbrev pub IsWayThere : World → ℕ → CacheWay → Type 0
IsWayThere w o (Own i) = i < length (props_at w o)
IsWayThere w o (Holder h i) = (h < length w) × (i < length (props_at w h))
IsWayThere w o Absent = Unit {0}

-- the way to a property of an object, or of a holder on its chain
abbrev pub way_to : List (Option Dictionary) → ℕ → ℕ → ℕ → Option CacheWay
way_to kept o holder place = if holder == o then Some (Own place) else where_fast (kept_of kept holder) (Holder holder place)

-- an object's own property of a name is writable, and stands there
pub record IsWritableAt (w : World) (o name i : ℕ) : Type 0 where
  pub place : place_of (props_at w o) name ≡ Some i
  pub property : IsSomeAnd (slice_get (props_at w o) i) (λ p. is_writable p ≡ true)

-- the way to a place on a chain
abbrev pub IsWayTo : Option Place → CacheWay → Type 0
IsWayTo at (Own i) = ⊥
IsWayTo at (Holder h i) = at ≡ Some (record { holder = h; place = i })
IsWayTo at Absent = at ≡ None

-- full lookup passed a map, to its prototype, and found this behind it
pub record IsSeen {P : Type 0} (s : ObjectsState P) (site : Site) (m : ℕ) (proto : Option ℕ) (way : CacheWay) : Type 0 where
  pub loads : site.op ≡ Load
  pub opened : IsOpenMap s.heap.view.trail m
  pub lacks : LacksName s.heap.view.trail m (count_of s.heap.view.trail m) site.name
  pub prototype : prototype_in s.heap.view.trail m ≡ Some proto
  pub there : IsThere (world_of s) proto
  pub found : IsWayTo (place_from s proto site.name) way
