-- How an object's slots are filled, and how it comes to a map with one entry more.
use Rattle.std.specs.Prelude.{◌≡◌, ◌≢◌, ◌⊎◌, ℕ, ◌+◌, ◌-◌, ◌<◌, ◌≤◌, ◌++◌, false, IsTrue, IfSome, List, Some}
use Rattle.hc_layout.specs.Capacity.{cap_of}
use Rattle.hc_layout.specs.declared.shape.Region.TheVariants.{Slots}
use Rattle.hc_layout.specs.declared.shape.Shape.{Shape}
use Rattle.hc_layout.specs.declared.words.StoreWord.{StoreWord}
use Rattle.hc_value.specs.Prop.{kind_of}
use Rattle.hc_value.specs.declared.field.Constness.TheVariants.{Const}
use Rattle.hc_value.specs.declared.prop.Prop.{Prop}
use Rattle.hc_heap.specs.Writes.{Trail, Write}
use Rattle.hc_heap.specs.Readings.{bits_in, map_in, root_in, store_in}
use Rattle.hc_heap.specs.Lawful.{IsFormOf}
use Rattle.hc_heap.specs.States.{View, HasRoom}
use Rattle.hc_descs.specs.Entries.{detail_at}
use Rattle.hc_tree.specs.Dying.{HaveDied, OutgrownFor}
use Rattle.hc_tree.specs.Growth.{asked_detail, child_need, fitting_child, marked}
use Rattle.hc_tree.specs.Needs.{HasSpace, with_need}
use Rattle.hc_value.specs.declared.field.Detail.{Detail}
use Rattle.hc_slots.specs.Meaning.{held_in, slot_word}
use Rattle.hc_slots.specs.Slots.{Owns, AreHandedOut, SlotsStay, slots_need}
use Rattle.hc_modes.specs.Admitting.{held_detail}
use Rattle.hc_modes.specs.Rest.{IsLinkedOrDead}
use Rattle.hc_modes.specs.Changes.{ChangedBut, OpensNoRoot, IsGrown, key_of}

-- the counts after an object with n properties got slots for one more
abbrev pub with_slots : StoreWord → ℕ → Shape → Shape
with_slots w n used = record used { slots = used.slots + slots_need n w.capacity }

-- so many slots weren't handed out yet
abbrev pub free_slots : View → ℕ
free_slots v = v.shape.slots - v.used.slots

-- an object has a slot of this number, or there is room for the slots that it gets with one more property
abbrev pub HasSlotFor : View → ℕ → ℕ → Type 0
HasSlotFor v o slot = (slot < (store_in v.trail o).capacity) ⊎ (cap_of (slot + 1) ≤ free_slots v)

-- a map with n entries has this child that fits a property, whose last field admits already what the property holds
pub record FitsAsIs (t : Trail) (m child n : ℕ) (p : Prop) : Type 0 where
  pub fits : fitting_child t m (key_of p) (held_detail t p.held Const) ≡ Some child
  pub stays : detail_at t child n ≡ Some (asked_detail t m (key_of p) (held_detail t p.held Const))

-- the map of an object with n properties has such a child
abbrev pub HasChildFor : Trail → ℕ → ℕ → ℕ → Prop → Type 0
HasChildFor t o child n p = IfSome (map_in t o) (λ m. FitsAsIs t m child n p)

-- the counts after it came besides to the child of its map, which was made where there was no live one that fits
abbrev pub with_growth : Trail → ℕ → ℕ → ℕ → Prop → Shape → Shape
with_growth t o m n p used = with_slots (store_in t o) n (with_need (child_need (fitting_child t m (key_of p) (held_detail t p.held Const)) n) used)

-- maps die where a map is to get a child for a property: its live child and what is under that, where its field doesn't join with what
-- the property holds in place
abbrev pub GrowthKills : Trail → ℕ → Prop → ℕ → Type 0
GrowthKills t m p x = OutgrownFor t m (key_of p) (held_detail t p.held Const) x

-- an object came from a map with n entries to a shared one that has one more, and its slot holds what the property does; some maps
-- died
pub record IsMovedBut (Dies : ℕ → Type 0) (old new : View) (o m n : ℕ) (p : Prop) : Type 0 where
  pub child : ℕ
  pub changed : ChangedBut Dies old new o
  pub opens : OpensNoRoot old.trail new.trail
  pub detail : Detail
  pub grown : IsGrown new.trail m child n (key_of p) detail
  pub shared : grown.gate.is_private ≡ false
  pub moved : map_in new.trail o ≡ Some child
  pub proto : (root_in new.trail o).is_proto ≡ (root_in old.trail o).is_proto
  pub room : n < (store_in new.trail o).capacity
  pub words : SlotsStay old.trail new.trail o n
  pub form : IsFormOf (kind_of p.held) detail.rep (slot_word new.trail o n)
  pub holds : held_in (kind_of p.held) detail.rep (slot_word new.trail o n) ≡ p.held
  pub store : AreHandedOut new.used.slots (store_in new.trail o)
  pub owns : (s : ℕ) → Owns new.trail o s → s < old.used.slots → Owns old.trail o s
  pub objects : new.used.objects ≡ old.used.objects
  pub other : child ≢ m
  pub more : List Write
  pub after : new.trail ≡ more ++ marked old.trail m
  pub marks : (x : ℕ) → x ≢ m → (bits_in old.trail x).unstable ≡ false → IsTrue (bits_in new.trail x).unstable → IsLinkedOrDead old.trail new.trail x
  pub dead : HaveDied Dies old.trail new.trail

abbrev pub IsMoved : View → View → ℕ → ℕ → ℕ → Prop → Type 0
IsMoved old new o m n p = IsMovedBut (GrowthKills old.trail m p) old new o m n p

-- there is room for an object with n properties to get one more: for its slots, and for the child of its map where there is no live one
-- that fits
pub record MayGrowBy (v : View) (o m n : ℕ) (p : Prop) : Type 0 where
  pub slots : HasRoom v Slots (slots_need n (store_in v.trail o).capacity)
  pub child : HasSpace v (child_need (fitting_child v.trail m (key_of p) (held_detail v.trail p.held Const)) n)
