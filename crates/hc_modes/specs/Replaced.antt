-- How an object comes to a live map in the place of its own, where that is dead, or where its field can't hold what is to be stored.
use Rattle.std.specs.Prelude.{◌≡◌, ◌≢◌, ◌⊎◌, ℕ, ◌<◌, false, IsTrue, Option, Some, None, List, slice_get, option_map}
use Rattle.hc_board.specs.Trail.{Access}
use Rattle.hc_layout.specs.declared.words.GateWord.{GateWord}
use Rattle.hc_value.specs.declared.field.Constness.{Constness}
use Rattle.hc_value.specs.declared.field.Detail.{Detail}
use Rattle.hc_value.specs.declared.prop.Held.{Held}
use Rattle.hc_value.specs.declared.prop.Prop.{Prop}
use Rattle.hc_heap.specs.Lawful.{Lawful}
use Rattle.hc_heap.specs.Readings.{bits_in, gate_in, map_in, prototype_in, root_in}
use Rattle.hc_heap.specs.Writes.{Trail}
use Rattle.hc_descs.specs.Entries.{count_of, detail_at, field_at, key_at}
use Rattle.hc_tree.specs.declared.need.Need.{Need}
use Rattle.hc_tree.specs.Growth.{marked, root_of}
use Rattle.hc_tree.specs.Needs.{HasSpace}
use Rattle.hc_tree.specs.Tree.{gate_with}
use Rattle.hc_update.specs.Renewing.{IsDoomed, generalise_need}
use Rattle.hc_update.specs.Retargeting.{rooted}
use Rattle.hc_update.specs.Updating.{updated_at}
use Rattle.hc_table.specs.Changes.{Moved}
use Rattle.hc_table.specs.World.{World, props_at}
use Rattle.hc_slots.specs.Meaning.{IsConstnessFor}
use Rattle.hc_modes.specs.Admitting.{FitsField, held_detail}
use Rattle.hc_modes.specs.Changes.{key_of}
use Rattle.hc_modes.specs.Details.{DetailsAre, IsRewalked}
use Rattle.hc_modes.specs.Meaning.{cause_in}
use Rattle.hc_modes.specs.Modes.{IsWithin, add_need, walk_need}
use Rattle.hc_modes.specs.Resettled.{GeneralisingGets, GeneralisingKills, marked_view}
use Rattle.hc_modes.specs.Rest.{MarksBut}
use Rattle.hc_modes.specs.State.{ObjectsState, IsLive}
use Rattle.hc_modes.specs.Steps.{ProtosStay, Steps, world_of}

-- Want of room

-- there is no room for an object to get a property more
pub record LacksGrowth {P : Type 0} (a : ObjectsState P) (o : ℕ) : Type 0 where
  pub property : Prop
  pub full : HasSpace a.heap.view (add_need a.heap.view.trail o property) → ⊥

-- the map of an object is dead, and there is no room for the live ones in its place
pub record LacksUpdate {P : Type 0} (a : ObjectsState P) (o : ℕ) : Type 0 where
  pub map : ℕ
  pub has : map_in a.heap.view.trail o ≡ Some map
  pub dead : IsTrue (bits_in a.heap.view.trail map).deprecated
  pub full : HasSpace a.heap.view (walk_need (count_of a.heap.view.trail map)) → ⊥

-- what is to be held can't be stored in place, and there is no room for the maps whose field may hold it
pub record LacksStore {P : Type 0} (a : ObjectsState P) (o i : ℕ) (held : Held) : Type 0 where
  pub map : ℕ
  pub gate : GateWord
  pub has : map_in a.heap.view.trail o ≡ Some map
  pub is_open : gate_in a.heap.view.trail map ≡ Some gate
  pub entry : i < gate.entries
  pub outgrown : FitsField a.heap.view.trail o i held → ⊥
  pub full : HasSpace a.heap.view (generalise_need gate i) → ⊥

-- what there was no room for
abbrev pub LacksRoom : {P : Type 0} → ObjectsState P → ℕ → Type 0
LacksRoom a o = LacksGrowth a o ⊎ (LacksUpdate a o ⊎ ((i : ℕ) × (held : Held) × LacksStore a o i held))

-- Maps in the place of others

-- a fast object came to another map with the same meaning: all objects are what they were, and are kept so; no more items were handed
-- out than that needs, and these maps died
pub record HasReplaced {P : Type 0} (goes_with : P → List Access → List Access → P → Type 0) (Dies : ℕ → Type 0) (need : Need) (a : ObjectsState P) (o : ℕ) (b : ObjectsState P) : Type 0 where
  pub steps : Steps goes_with a Moved b
  pub fast : cause_in a.kept o ≡ None
  pub kept : b.kept ≡ a.kept
  pub null : b.of_null ≡ a.of_null
  pub left : map_in b.heap.view.trail o ≢ map_in a.heap.view.trail o
  pub needs : IsWithin need a.heap.view.used b.heap.view.used
  pub protos : ProtosStay a.heap.view.trail b.heap.view.trail
  pub marks : MarksBut Dies a.heap.view.trail b.heap.view.trail o
  pub lawful : Lawful b.heap.view.shape b.heap.view.trail

-- a live shared map stands in the place of another with n entries: it has the same keys, up to the stop the fields of the live end, and
-- its fields admit what is wanted
pub record IsInPlace (old new : Trail) (m n end count stop : ℕ) (proto : Option ℕ) (c : ℕ) : Type 0 where
  pub gate : gate_in new c ≡ Some (gate_with n false)
  pub live : (bits_in new c).deprecated ≡ false
  pub prototype : prototype_in new c ≡ Some proto
  pub keys : (k : ℕ) → k < n → key_at new c k ≡ key_at old m k
  pub shared : (k : ℕ) → k < stop → field_at new c k ≡ field_at old end k
  pub made : (k : ℕ) → k < n → detail_at new c k ≡ updated_at old end m count k

-- the map of a fast object was dead, and there was room: the object has the live map in its place, which is walked to, or made, under
-- its own root
pub record HasMigrated {P : Type 0} (goes_with : P → List Access → List Access → P → Type 0) (a : ObjectsState P) (o : ℕ) (b : ObjectsState P) : Type 0 where
  pub map : ℕ
  pub now : ℕ
  pub proto : Option ℕ
  pub has : map_in a.heap.view.trail o ≡ Some map
  pub comes : map_in b.heap.view.trail o ≡ Some now
  pub dead : IsTrue (bits_in a.heap.view.trail map).deprecated
  pub shared : (root_in a.heap.view.trail o).is_proto ≡ false
  pub prototype : prototype_in a.heap.view.trail map ≡ Some proto
  pub room : HasSpace a.heap.view (walk_need (count_of a.heap.view.trail map))
  pub walked : IsRewalked a.heap.view a.of_null map proto b.heap.view.trail
  pub known : root_of a.heap.view.trail proto a.of_null ≡ Some walked.root
  pub replaced : HasReplaced goes_with (IsDoomed (rooted (marked_view a.heap.view map) a.of_null proto walked.root) walked.end walked.count walked.stop) (walk_need (count_of a.heap.view.trail map)) a o b
  pub place : IsInPlace a.heap.view.trail b.heap.view.trail map (count_of a.heap.view.trail map) walked.end walked.count walked.stop proto now

-- what is asked of the field of a place where this is stored: the field is constant afterwards only where that was held there
pub record IsAskedFor {P : Type 0} (a : ObjectsState P) (o m i : ℕ) (held : Held) (d : Detail) : Type 0 where
  pub before : Detail
  pub admitted : detail_at a.heap.view.trail m i ≡ Some before
  pub was : Prop
  pub property : slice_get (props_at (world_of a) o) i ≡ Some was
  pub constness : Constness
  pub right : IsConstnessFor before.constness was.held held constness
  pub asked : d ≡ held_detail a.heap.view.trail held constness

-- the field of a fast object's place couldn't hold what is to be stored, and there was room: the object has a map whose field may
pub record HasGeneralised {P : Type 0} (goes_with : P → List Access → List Access → P → Type 0) (a : ObjectsState P) (o i : ℕ) (held : Held) (b : ObjectsState P) : Type 0 where
  pub map : ℕ
  pub gate : GateWord
  pub detail : Detail
  pub has : map_in a.heap.view.trail o ≡ Some map
  pub is_open : gate_in a.heap.view.trail map ≡ Some gate
  pub own : gate.is_private ≡ (root_in a.heap.view.trail o).is_proto
  pub live : (bits_in a.heap.view.trail map).deprecated ≡ false
  pub entry : i < gate.entries
  pub outgrown : FitsField a.heap.view.trail o i held → ⊥
  pub room : HasSpace a.heap.view (generalise_need gate i)
  pub asked : IsAskedFor a o map i held detail
  pub replaced : HasReplaced goes_with (GeneralisingKills gate.is_private (marked a.heap.view.trail map) map gate.entries i) (generalise_need gate i) a o b
  pub details : DetailsAre (GeneralisingGets gate.is_private (marked_view a.heap.view map) map gate.entries i detail) a.heap.view.trail b.heap.view.trail
  pub comes : IsLive b.heap.view.trail o

-- Stores

-- another property of the same key stands at a place
pub record IsOther (w : World) (o i : ℕ) (p : Prop) : Type 0 where
  pub other : slice_get (props_at w o) i ≢ Some p
  pub same : option_map key_of (slice_get (props_at w o) i) ≡ Some (key_of p)
