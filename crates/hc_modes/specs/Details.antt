-- What became of the details of fields, by what was done: exactly these fields got these details, and no other one changed.
use Rattle.std.specs.Prelude.{◌≡◌, ◌≢◌, ◌∷◌, ℕ, ◌<◌, Bool, true, false, Option, Some, None, option_map, List, length, slice_get}
use Rattle.hc_value.specs.declared.reply.Cause.{Cause}
use Rattle.hc_layout.specs.declared.capacity.TheConstants.{MAX_FAST}
use Rattle.hc_layout.specs.declared.shape.Shape.{Shape}
use Rattle.hc_value.specs.Field.{joined_detail}
use Rattle.hc_value.specs.declared.field.Constness.{Constness}
use Rattle.hc_value.specs.declared.field.Constness.TheVariants.{Const}
use Rattle.hc_value.specs.declared.field.Detail.{Detail}
use Rattle.hc_value.specs.declared.prop.Held.{Held}
use Rattle.hc_value.specs.declared.prop.Prop.{Prop}
use Rattle.hc_heap.specs.Readings.{detail_in, map_in, root_in}
use Rattle.hc_heap.specs.States.{View}
use Rattle.hc_heap.specs.Kept.{Adds}
use Rattle.hc_heap.specs.Writes.{Slot, Trail}
use Rattle.hc_descs.specs.Entries.{count_of, field_at}
pub use Rattle.hc_tree.specs.Details.{DetailsAre}
use Rattle.hc_tree.specs.Copying.{CopyGets}
use Rattle.hc_tree.specs.Details.{NoMap, WritesDetails}
use Rattle.hc_tree.specs.Growth.{AskGets}
use Rattle.hc_tree.specs.Walking.{IsLiveEnd}
use Rattle.hc_update.specs.Renewing.{IsDoomed}
use Rattle.hc_update.specs.Retargeting.{rooted}
use Rattle.hc_update.specs.Updating.{IsStop, UpdateGets}
use Rattle.hc_modes.specs.Filling.{GrowthKills}
use Rattle.hc_modes.specs.Resettled.{marked_view}
use Rattle.hc_modes.specs.Rest.{DeathsAre}
use Rattle.hc_tree.specs.Needs.{HasSpace}
use Rattle.hc_table.specs.Changes.{Did, Added, Wrote, Reconfigured as Changed, Linked}
use Rattle.hc_table.specs.World.{props_at}
use Rattle.hc_slots.specs.Meaning.{Dictionary, IsConstnessFor}
use Rattle.hc_modes.specs.Admitting.{held_detail}
use Rattle.hc_modes.specs.Changes.{key_of}
use Rattle.hc_modes.specs.Meaning.{kept_of, world}
use Rattle.hc_modes.specs.Modes.{add_need, link_need}

-- a store to a property of a fast object: its field gets the join of what it admitted with what is to be held there
pub record WroteGets (t : Trail) (kept : List (Option Dictionary)) (o i : ℕ) (held : Held) (f : ℕ) (d : Detail) : Type 0 where
  pub fast : kept_of kept o ≡ None
  pub map : ℕ
  pub has : map_in t o ≡ Some map
  pub field : field_at t map i ≡ Some f
  pub before : Detail
  pub admitted : detail_in t f ≡ Some before
  pub was : Prop
  pub property : slice_get (props_at (world t kept) o) i ≡ Some was
  pub constness : Constness
  pub right : IsConstnessFor before.constness was.held held constness
  pub joined : d ≡ joined_detail before (held_detail t held constness)

-- details alone were written first, and last a slot: at no moment between does a slot hold what its field doesn't admit
pub record DetailsFirst (old new : Trail) : Type 0 where
  pub before : Trail
  pub slot : ℕ
  pub word : ℕ
  pub details : Adds WritesDetails old before
  pub last : new ≡ Slot slot word ∷ before

-- no field gets a detail
abbrev pub GetsNothing : ℕ → Detail → Type 0
GetsNothing f d = ⊥

-- a map with n entries gets one for a property: what that holds is asked of the last field of the live child, as a constant, or
-- else the first new field admits it; it is so of a new field always where the map is an object's own
abbrev pub GrownGets : Bool → Trail → Shape → ℕ → ℕ → Prop → ℕ → Detail → Type 0
GrownGets false t used m n p f d = AskGets t m (key_of p) (held_detail t p.held Const) used.fields f d
GrownGets true t used m n p f d = (f ≡ used.fields) × (d ≡ held_detail t p.held Const)

-- a fast object gets a property, and stays fast
pub record AddedGets (v : View) (o : ℕ) (p : Prop) (f : ℕ) (d : Detail) : Type 0 where
  pub map : ℕ
  pub has : map_in v.trail o ≡ Some map
  pub gets : GrownGets (root_in v.trail o).is_proto v.trail v.used map (count_of v.trail map) p f d

-- a fast object becomes a prototype, and stays fast: each new field admits what the field of its map admits
pub record BecameGets (v : View) (p f : ℕ) (d : Detail) : Type 0 where
  pub map : ℕ
  pub has : map_in v.trail p ≡ Some map
  pub shared : (root_in v.trail p).is_proto ≡ false
  pub gets : CopyGets true None v.trail map (count_of v.trail map) v.used.fields f d

-- where an object is fast
abbrev pub IfFast : Option Cause → (ℕ → Detail → Type 0) → ℕ → Detail → Type 0
IfFast None Gets f d = Gets f d
IfFast (Some cause) Gets f d = ⊥

-- from a map, made unstable, there is a walk from the root of another prototype, by its keys, along live maps as far as they go. Up to
-- the first place where that isn't in place their fields get the joins with what the map's admit, and from there on new ones admit
-- what is wanted: the joins as far as the live maps went, and past them what the map's do
pub record IsRewalked (v : View) (null : Option ℕ) (m : ℕ) (proto : Option ℕ) (new : Trail) : Type 0 where
  pub root : ℕ
  pub end : ℕ
  pub count : ℕ
  pub stop : ℕ
  pub ended : IsLiveEnd (rooted (marked_view v m) null proto root) root m (count_of v.trail m) end count
  pub stopped : IsStop (rooted (marked_view v m) null proto root) end m count stop
  pub details : DetailsAre (UpdateGets (rooted (marked_view v m) null proto root) end m count stop (count_of v.trail m) v.used.fields) v.trail new
  pub deaths : DeathsAre (IsDoomed (rooted (marked_view v m) null proto root) end count stop) v.trail new

-- an object with a shared map gets another prototype, and stays fast
abbrev pub HasRewalked : View → Option ℕ → ℕ → Option ℕ → Trail → Type 0
HasRewalked v null o proto new = (m : ℕ) → map_in v.trail o ≡ Some m → IsRewalked v null m proto new

-- a fast object has few properties, and there is room for one more
pub record MayStay (v : View) (kept : List (Option Dictionary)) (o : ℕ) (p : Prop) : Type 0 where
  pub fast : kept_of kept o ≡ None
  pub few : length (props_at (world v.trail kept) o) < MAX_FAST
  pub room : HasSpace v (add_need v.trail o p)

-- such an object gets the property in its map, and another changes no detail
pub record AddedDetails (v : View) (kept : List (Option Dictionary)) (o : ℕ) (p : Prop) (new : Trail) : Type 0 where
  pub grown : MayStay v kept o p → DetailsAre (AddedGets v o p) v.trail new
  pub nothing : (MayStay v kept o p → ⊥) → DetailsAre GetsNothing v.trail new

-- maps that die where an object gets a property: where it stays fast, and is and was no prototype, the live child of its map, whose
-- field doesn't join in place, and what is under that
pub record AddKills (v : View) (kept : List (Option Dictionary)) (o : ℕ) (p : Prop) (x : ℕ) : Type 0 where
  pub stays : MayStay v kept o p
  pub shared : (root_in v.trail o).is_proto ≡ false
  pub map : ℕ
  pub has : map_in v.trail o ≡ Some map
  pub kills : GrowthKills v.trail map p x

-- another property of the same key is put in the place of one
pub record ChangedGets (t : Trail) (kept : List (Option Dictionary)) (o i : ℕ) (p : Prop) (f : ℕ) (d : Detail) : Type 0 where
  pub other : slice_get (props_at (world t kept) o) i ≢ Some p
  pub same : option_map key_of (slice_get (props_at (world t kept) o) i) ≡ Some (key_of p)
  pub wrote : WroteGets t kept o i p.held f d

-- a fast object with a shared map gets another prototype, for which there is room
pub record StaysShared (v : View) (kept : List (Option Dictionary)) (null : Option ℕ) (o : ℕ) (proto : Option ℕ) : Type 0 where
  pub fast : kept_of kept o ≡ None
  pub room : HasSpace v (link_need v.trail o proto null)
  pub shared : (root_in v.trail o).is_proto ≡ false

-- such an object comes to a map that is walked to; another changes no detail, and no map dies
pub record LinkedDetails (v : View) (kept : List (Option Dictionary)) (null : Option ℕ) (o : ℕ) (proto : Option ℕ) (new : Trail) : Type 0 where
  pub walked : StaysShared v kept null o proto → HasRewalked v null o proto new
  pub nothing : (StaysShared v kept null o proto → ⊥) → DetailsAre GetsNothing v.trail new
  pub spares : (StaysShared v kept null o proto → ⊥) → DeathsAre NoMap v.trail new

-- what became of details by an operation
abbrev pub DetailsOf : Did → View → List (Option Dictionary) → Option ℕ → Trail → Type 0
DetailsOf (Added o p) v kept null new = AddedDetails v kept o p new
DetailsOf (Wrote o i held) v kept null new = DetailsAre (WroteGets v.trail kept o i held) v.trail new
DetailsOf (Changed o i p) v kept null new = DetailsAre (ChangedGets v.trail kept o i p) v.trail new
DetailsOf (Linked o proto) v kept null new = LinkedDetails v kept null o proto new
DetailsOf _ v kept null new = DetailsAre GetsNothing v.trail new
