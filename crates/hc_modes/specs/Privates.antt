-- How a fast object that is or was a prototype comes to another private map.
use Rattle.std.specs.Prelude.{◌≡◌, ℕ, ◌<◌, Bool, true, false, IsTrue, Option, Some, None}
use Rattle.hc_value.specs.Prop.{kind_of}
use Rattle.hc_value.specs.declared.field.Detail.{Detail}
use Rattle.hc_value.specs.declared.key.Key.{Key}
use Rattle.hc_value.specs.declared.prop.Prop.{Prop}
use Rattle.hc_heap.specs.Writes.{Trail}
use Rattle.hc_heap.specs.Readings.{bits_in, gate_in, map_in, prototype_in, root_in, store_in}
use Rattle.hc_heap.specs.Lawful.{IsFormOf, IsOwnMap}
use Rattle.hc_heap.specs.Kept.{Adds}
use Rattle.hc_heap.specs.States.{View, IsHeap}
use Rattle.hc_descs.specs.Entries.{count_of, key_at, detail_at}
use Rattle.hc_tree.specs.declared.need.Need.{Need}
use Rattle.hc_tree.specs.Copying.{IsPrivateCopy, More, copy_need}
use Rattle.hc_tree.specs.Growth.{MakesMap, marked}
use Rattle.hc_tree.specs.Needs.{no_need, with_need}
use Rattle.hc_tree.specs.Tree.{IsTree, gate_with, tagged_field}
use Rattle.hc_modes.specs.Admitting.{AsksLast}
use Rattle.hc_modes.specs.Changes.{Changed, IsGrown, OpensNoRoot, key_of}
use Rattle.hc_slots.specs.Slots.{SlotsStay, slots_need, AreHandedOut, Owns}
use Rattle.hc_slots.specs.Meaning.{held_in, slot_word}
use Rattle.hc_modes.specs.Rest.{MarksAt}
use Rattle.hc_modes.specs.Modes.{IsWithin, both}

-- what one property more needs, of an object with n properties and a private map: a copy of the map with one entry more, and slots
abbrev pub private_need : Key → ℕ → ℕ → Need
private_need key n capacity = both (copy_need false (Some (key, tagged_field)) n) (record no_need { slots = slots_need n capacity })

-- a map was made unstable, and the next map is a private copy of it
pub record IsCopied (fresh : Bool) (more : More) (proto : Option ℕ) (old new : View) (m : ℕ) : Type 0 where
  pub writes : Adds (MakesMap old.used (Some m)) old.trail new.trail
  pub copy : IsPrivateCopy fresh more proto new.trail old.used.maps m (count_of old.trail m) old.used.fields
  pub own : IsOwnMap new.trail old.used.maps
  pub unstable : IsTrue (bits_in new.trail m).unstable
  pub after : Adds (MarksAt m) (marked old.trail m) new.trail
  pub used : new.used ≡ with_need (copy_need fresh more (count_of old.trail m)) old.used
  pub shape : new.shape ≡ old.shape
  pub tree : IsTree new.trail
  pub heap : IsHeap new

-- a private map has this prototype, and as many entries as another map, with the same keys and details
pub record IsAlike (t : Trail) (c m n : ℕ) (proto : Option ℕ) : Type 0 where
  pub gate : gate_in t c ≡ Some (gate_with n true)
  pub prototype : prototype_in t c ≡ Some proto
  pub keys : (k : ℕ) → k < n → key_at t c k ≡ key_at t m k
  pub details : (k : ℕ) → k < n → detail_at t c k ≡ detail_at t m k

-- an object came from a map with n entries to a private copy of it, with new fields or with the map's own, and with a prototype
pub record IsMovedToCopy (fresh : Bool) (old new : View) (o m n : ℕ) (proto : Option ℕ) : Type 0 where
  pub changed : Changed old new o
  pub opens : OpensNoRoot old.trail new.trail
  pub alike : IsAlike new.trail old.used.maps m n proto
  pub moved : map_in new.trail o ≡ Some old.used.maps
  pub roots : (q : ℕ) → root_in new.trail q ≡ root_in old.trail q
  pub store : store_in new.trail o ≡ store_in old.trail o
  pub words : SlotsStay old.trail new.trail o n
  pub used : new.used ≡ with_need (copy_need fresh None n) old.used
  pub younger : m < old.used.maps
  pub stable : (bits_in new.trail old.used.maps).unstable ≡ false
  pub after : Adds (MarksAt m) (marked old.trail m) new.trail

-- an object came from a map with n entries to a private one that has one more, and its slot holds what the property does
pub record IsGrownAlone (old new : View) (o m n : ℕ) (p : Prop) : Type 0 where
  pub changed : Changed old new o
  pub opens : OpensNoRoot old.trail new.trail
  pub detail : Detail
  pub asks : AsksLast old.trail new.trail o n p
  pub grown : IsGrown new.trail m old.used.maps n (key_of p) detail
  pub private : IsTrue grown.gate.is_private
  pub moved : map_in new.trail o ≡ Some old.used.maps
  pub roots : (q : ℕ) → root_in new.trail q ≡ root_in old.trail q
  pub room : n < (store_in new.trail o).capacity
  pub words : SlotsStay old.trail new.trail o n
  pub form : IsFormOf (kind_of p.held) detail.rep (slot_word new.trail o n)
  pub holds : held_in (kind_of p.held) detail.rep (slot_word new.trail o n) ≡ p.held
  pub store : AreHandedOut new.used.slots (store_in new.trail o)
  pub owns : (s : ℕ) → Owns new.trail o s → s < old.used.slots → Owns old.trail o s
  pub needs : IsWithin (private_need (key_of p) n (store_in old.trail o).capacity) old.used new.used
  pub objects : new.used.objects ≡ old.used.objects
  pub younger : m < old.used.maps
  pub stable : (bits_in new.trail old.used.maps).unstable ≡ false
  pub after : Adds (MarksAt m) (marked old.trail m) new.trail
