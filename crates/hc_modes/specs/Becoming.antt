-- How an object becomes a prototype.
use Rattle.hc_modes.specs.Rest.{MarksAt}
use Rattle.hc_tree.specs.Growth.{marked}
use Rattle.hc_heap.specs.Kept.{Adds}
use Rattle.std.specs.Prelude.{◌≡◌, ◌≢◌, ℕ, true, IsTrue, Option, Some, None, List, ◌∷◌, ◌<◌, false}
use Rattle.hc_board.specs.Trail.{Access}
use Rattle.hc_value.specs.declared.reply.Cause.TheVariants.{Space}
use Rattle.hc_heap.specs.Writes.{Trail, Root}
use Rattle.hc_heap.specs.Readings.{prototype_in, map_in, root_in, store_in, slot_in, bits_in}
use Rattle.hc_heap.specs.States.{View}
use Rattle.hc_descs.specs.Entries.{count_of}
use Rattle.hc_tree.specs.Copying.{IsPrivateCopy, copy_need}
use Rattle.hc_tree.specs.Needs.{HasSpace, with_need}
use Rattle.hc_table.specs.Changes.{Moved}
use Rattle.hc_table.specs.World.{object}
use Rattle.hc_modes.specs.Came.{Steps, world_of}
use Rattle.hc_modes.specs.Changes.{Changed, KeptBut, OpensNoRoot}
use Rattle.hc_slots.specs.Meaning.{Dictionary, dictionary_object}
use Rattle.hc_modes.specs.Meaning.{cause_in, kept_of}
use Rattle.hc_modes.specs.Modes.{Becomes, if_fast, proto_need}
use Rattle.hc_modes.specs.State.{ObjectsState}

-- the trail after an object became a prototype; the root that it names stays
abbrev pub with_proto : Trail → ℕ → Trail
with_proto t o = Root o (record { is_proto = true; map = (root_in t o).map }) ∷ t

-- an object is a prototype now; the roots that objects name stay, and so do the maps of other objects
pub record HasBecome (p : ℕ) (old new : Trail) : Type 0 where
  pub proto : IsTrue (root_in new p).is_proto
  pub protos : (q : ℕ) → q ≢ p → (root_in new q).is_proto ≡ (root_in old q).is_proto
  pub roots : (q : ℕ) → (root_in new q).map ≡ (root_in old q).map
  pub maps : (q : ℕ) → q ≢ p → map_in new q ≡ map_in old q

-- an object became a prototype that has a new private copy of its map, with new fields, and the slots that it had
pub record IsOwned (old new : View) (o m : ℕ) : Type 0 where
  pub proto : Option ℕ
  pub prototype : prototype_in old.trail m ≡ Some proto
  pub changed : Changed old new o
  pub opens : OpensNoRoot old.trail new.trail
  pub copy : IsPrivateCopy true None proto new.trail old.used.maps m (count_of old.trail m) old.used.fields
  pub moved : map_in new.trail o ≡ Some old.used.maps
  pub became : HasBecome o old.trail new.trail
  pub store : store_in new.trail o ≡ store_in old.trail o
  pub slots : (s : ℕ) → slot_in new.trail s ≡ slot_in old.trail s
  pub used : new.used ≡ with_need (copy_need true None (count_of old.trail m)) old.used
  pub younger : m < old.used.maps
  pub stable : (bits_in new.trail old.used.maps).unstable ≡ false
  pub after : Adds (MarksAt m) (marked old.trail m) new.trail

-- the dictionary of an object that is to be a prototype: there is one exactly where it is fast, and there is no room for a
-- private map
pub record HasSpare {P : Type 0} (s : ObjectsState P) (p : ℕ) (d : Dictionary) : Type 0 where
  pub fast : kept_of s.kept p ≡ None
  pub full : HasSpace s.heap.view (proto_need s.heap.view.trail p) → ⊥
  pub cause : d.cause ≡ Space
  pub value : dictionary_object d ≡ object (world_of s) p

abbrev pub IsSpare : {P : Type 0} → ObjectsState P → ℕ → Option Dictionary → Type 0
IsSpare s p (Some d) = HasSpare s p d
IsSpare s p None = kept_of s.kept p ≡ None → HasSpace s.heap.view (proto_need s.heap.view.trail p)

-- an object became a prototype: it has a private map, or is slow where there was no room for one
pub record IsSettled {P : Type 0} (goes_with : P → List Access → List Access → P → Type 0) (a : ObjectsState P) (p : ℕ) (b : ObjectsState P) : Type 0 where
  pub steps : Steps goes_with a Moved b
  pub mode : Becomes (cause_in a.kept p) None (HasSpace a.heap.view (proto_need a.heap.view.trail p)) (cause_in b.kept p)
  pub used : b.heap.view.used ≡ with_need (if_fast (cause_in b.kept p) (proto_need a.heap.view.trail p)) a.heap.view.used
  pub became : HasBecome p a.heap.view.trail b.heap.view.trail
  pub others : KeptBut p a.kept b.kept
  pub null : b.of_null ≡ a.of_null
