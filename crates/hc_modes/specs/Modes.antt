-- Which objects an operation makes slow, and why; what it needs of each region; and which objects are alike.
use Rattle.std.specs.Prelude.{◌≡◌, ◌≢◌, ◌↔◌, ℕ, suc, Bool, true, false, ◌<◌, ◌==◌, ◌&&◌, not, nat_lt, Option, Some, None, option_map, IfSome, IsSomeAnd, if◌then◌else◌, List, length, map, slice_get, ⊤}
use Rattle.hc_layout.specs.declared.capacity.TheConstants.{MAX_FAST}
use Rattle.hc_value.specs.declared.field.Constness.TheVariants.{Const}
use Rattle.hc_value.specs.declared.prop.Prop.{Prop}
use Rattle.hc_value.specs.declared.reply.Cause.{Cause}
use Rattle.hc_value.specs.declared.reply.Mode.{Mode}
use Rattle.hc_value.specs.declared.reply.Mode.TheVariants.{Fast, Slow}
use Rattle.hc_value.specs.declared.reply.Cause.TheVariants.{Deleted, Many, Reconfigured, Space}
use Rattle.hc_heap.specs.Writes.{Trail}
use Rattle.hc_heap.specs.Readings.{map_in, root_in, store_in}
use Rattle.hc_descs.specs.Entries.{count_of}
use Rattle.hc_tree.specs.declared.need.Need.{Need}
use Rattle.hc_tree.specs.Copying.{copy_need}
use Rattle.hc_tree.specs.Growth.{child_need, fitting_child, root_need, root_of}
use Rattle.hc_tree.specs.Needs.{HasSpace, no_need}
pub use Rattle.hc_tree.specs.Needs.{IsNoLess, IsWithin, arrays_upto, both, walk_need}
use Rattle.hc_tree.specs.Tree.{tagged_field}
use Rattle.hc_table.specs.Changes.{Did, Nothing, Moved, Created, Added, Wrote, Reconfigured as Changed, Removed, Linked, Locked, Restricted}
use Rattle.hc_table.specs.World.{object, props_at}
use Rattle.hc_modes.specs.Admitting.{held_detail}
use Rattle.hc_modes.specs.Changes.{key_of}
use Rattle.hc_slots.specs.Slots.{slots_need}
use Rattle.hc_slots.specs.Meaning.{Dictionary}
use Rattle.hc_modes.specs.Meaning.{cause_in, world}
use Rattle.hc_modes.specs.State.{ObjectsState}

-- Needs

-- what is needed of a fast object's map; a slow object needs nothing
abbrev pub need_by : Option ℕ → (ℕ → Need) → Need
need_by (Some m) need = need m
need_by None need = no_need

-- the map of an object with n properties that gets one more: a private copy where it is or was a prototype, and else the live
-- child of its map, which is made where there is none whose field joins with what the property holds in place
abbrev pub grown_need : Bool → Trail → ℕ → ℕ → Prop → Need
grown_need is_proto t m n p =
    if is_proto then copy_need false (Some (key_of p, tagged_field)) n else child_need (fitting_child t m (key_of p) (held_detail t p.held Const)) n

-- an object gets a property more: a map, and the slots for it
abbrev pub add_need : Trail → ℕ → Prop → Need
add_need t o p =
    need_by (map_in t o)
    (λ m. both (grown_need (root_in t o).is_proto t m (count_of t m) p) (record no_need { slots = slots_need (count_of t m) (store_in t o).capacity }))

-- an object becomes a prototype: a private map, where it is none yet
abbrev pub proto_need : Trail → ℕ → Need
proto_need t p = need_by (map_in t p) (λ m. if (root_in t p).is_proto then no_need else copy_need true None (count_of t m))

-- an object gets another prototype: a private copy where it is or was a prototype itself, and else a walk from the root of
-- the new one, which is made where there is none
abbrev pub link_need : Trail → ℕ → Option ℕ → Option ℕ → Need
link_need t o proto of_null =
    need_by (map_in t o)
    (λ m. if (root_in t o).is_proto then copy_need false None (count_of t m) else both (walk_need (count_of t m)) (root_need (root_of t proto of_null)))

-- the most that an operation needs by itself, after the moves before it
abbrev pub need_of : {P : Type 0} → ObjectsState P → Did → Need
need_of a (Created proto) = root_need (root_of a.heap.view.trail proto a.of_null)
need_of a (Added o p) = add_need a.heap.view.trail o p
need_of a (Linked o proto) = link_need a.heap.view.trail o proto a.of_null
need_of a _ = no_need

-- Modes

-- how an object is kept
abbrev pub mode_by : Option Cause → ℕ → Mode
mode_by None n = Fast n
mode_by (Some cause) n = Slow cause

abbrev pub mode_of : Trail → List (Option Dictionary) → ℕ → Mode
mode_of t kept o = mode_by (cause_in kept o) (length (props_at (world t kept) o))

-- a fast object stays fast exactly where there is room, and is slow for want of space else
pub record StaysFast (room : Type 0) (now : Option Cause) : Type 0 where
  pub stays : (now ≡ None) ↔ room
  pub leaves : IfSome now (λ c. c ≡ Space)

-- why an object is slow after an operation: the first cause stays, then comes the one that the operation gives, and then want
-- of room
abbrev pub Becomes : Option Cause → Option Cause → Type 0 → Option Cause → Type 0
Becomes (Some first) given room now = now ≡ Some first
Becomes None (Some cause) room now = now ≡ Some cause
Becomes None None room now = StaysFast room now

-- a fast object has as many properties as it can
abbrev pub if_many : ℕ → Option Cause
if_many n = if nat_lt n MAX_FAST then None else Some Many

-- a property is deleted that isn't the last, or one of an object that is or was a prototype
abbrev pub if_deleted : Bool → ℕ → ℕ → Option Cause
if_deleted is_proto n i = if suc i == n && not is_proto then None else Some Deleted

-- an operation on an object, which gives a cause or asks for room
pub record IsOne {P : Type 0} (a : ObjectsState P) (o : ℕ) (given : Option Cause) (room : Type 0) (b : ObjectsState P) : Type 0 where
  pub this : Becomes (cause_in a.kept o) given room (cause_in b.kept o)
  pub others : (p : ℕ) → p ≢ o → cause_in b.kept p ≡ cause_in a.kept p

-- each object stays fast, or slow for its cause
abbrev pub AllStay : {P : Type 0} → ObjectsState P → ObjectsState P → Type 0
AllStay a b = (p : ℕ) → cause_in b.kept p ≡ cause_in a.kept p

-- another property is put in the place of one: with another key it makes the object slow, and an equal one is no store
pub record IsReconfigured {P : Type 0} (a : ObjectsState P) (o i : ℕ) (p : Prop) (b : ObjectsState P) : Type 0 where
  pub same : option_map key_of (slice_get (props_at (world a.heap.view.trail a.kept) o) i) ≡ Some (key_of p) → AllStay a b
  pub other : option_map key_of (slice_get (props_at (world a.heap.view.trail a.kept) o) i) ≢ Some (key_of p) → IsOne a o (Some Reconfigured) ⊤ b
  pub none : slice_get (props_at (world a.heap.view.trail a.kept) o) i ≡ Some p → b.heap.desk.trail ≡ a.heap.desk.trail

-- what an object needs that is fast, and no item where it is slow
abbrev pub if_fast : Option Cause → Need → Need
if_fast None need = need
if_fast (Some c) need = no_need

-- an object was made: fast exactly where there is room for the root of its prototype
pub record IsCreated {P : Type 0} (a : ObjectsState P) (proto : Option ℕ) (b : ObjectsState P) : Type 0 where
  pub this : StaysFast (HasSpace a.heap.view (root_need (root_of a.heap.view.trail proto a.of_null))) (cause_in b.kept (length a.kept))
  pub others : (p : ℕ) → p < length a.kept → cause_in b.kept p ≡ cause_in a.kept p

-- what an operation made of the modes, after the moves before it
abbrev pub Modes : {P : Type 0} → ObjectsState P → Did → ObjectsState P → Type 0
Modes a Nothing b = AllStay a b
Modes a Moved b = AllStay a b
Modes a (Created proto) b = IsCreated a proto b
Modes a (Added o p) b = IsOne a o (if_many (length (props_at (world a.heap.view.trail a.kept) o))) (HasSpace a.heap.view (add_need a.heap.view.trail o p)) b
Modes a (Wrote o i held) b = AllStay a b
Modes a (Changed o i p) b = IsReconfigured a o i p b
Modes a (Removed o i) b = IsOne a o (if_deleted (root_in a.heap.view.trail o).is_proto (length (props_at (world a.heap.view.trail a.kept) o)) i) ⊤ b
Modes a (Linked o proto) b = IsOne a o None (HasSpace a.heap.view (link_need a.heap.view.trail o proto a.of_null)) b
Modes a (Locked o) b = IsOne a o (Some Reconfigured) ⊤ b
Modes a (Restricted o frozen) b = IsOne a o (Some Reconfigured) ⊤ b

-- Sharing

-- two objects are fast, neither is or was a prototype, and their prototypes and the names, kinds and attributes of their
-- properties are the same
pub record AreAlike (t : Trail) (kept : List (Option Dictionary)) (a b : ℕ) : Type 0 where
  pub fast_a : cause_in kept a ≡ None
  pub fast_b : cause_in kept b ≡ None
  pub shared_a : (root_in t a).is_proto ≡ false
  pub shared_b : (root_in t b).is_proto ≡ false
  pub proto : (object (world t kept) a).proto ≡ (object (world t kept) b).proto
  pub keys : map key_of (props_at (world t kept) a) ≡ map key_of (props_at (world t kept) b)

-- the words of two objects say one map
abbrev pub HaveOneWord : Trail → ℕ → ℕ → Type 0
HaveOneWord t a b = IsSomeAnd (map_in t a) (λ m. map_in t b ≡ Some m)
