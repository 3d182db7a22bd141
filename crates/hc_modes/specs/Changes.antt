-- What an operation on one object writes, and what it leaves.
use Rattle.std.specs.Prelude.{◌≡◌, ◌≢◌, ◌⊎◌, ℕ, ◌+◌, ◌<◌, ◌≤◌, false, IsTrue, Option, Some, List, length}
use Rattle.hc_layout.specs.declared.words.GateWord.{GateWord}
use Rattle.hc_layout.specs.declared.words.RootWord.{RootWord}
use Rattle.hc_value.specs.Prop.{kind_of}
use Rattle.hc_value.specs.declared.field.Detail.{Detail}
use Rattle.hc_value.specs.declared.key.Key.{Key}
use Rattle.hc_value.specs.declared.prop.Held.{Held}
use Rattle.hc_value.specs.declared.prop.Prop.{Prop}
use Rattle.hc_heap.specs.Writes.{Write, Trail, Bits, ObjectCell, ObjectMap, Root, Store, Slot, Validity}
use Rattle.hc_heap.specs.Readings.{gate_in, prototype_in, bits_in, map_in, root_in, store_in, slot_in}
use Rattle.hc_heap.specs.Kept.{Adds}
use Rattle.hc_heap.specs.States.{View, IsHeap}
use Rattle.hc_descs.specs.Entries.{key_at, detail_at}
use Rattle.hc_descs.specs.Copies.{HasEntriesOf}
use Rattle.hc_tree.specs.Tree.{IsTree}
use Rattle.hc_tree.specs.Details.{NoMap}
pub use Rattle.hc_tree.specs.Walking.{OpensNoRoot}
use Rattle.hc_table.specs.World.{Object}
use Rattle.hc_slots.specs.Meaning.{Dictionary, object_shown}
use Rattle.hc_modes.specs.Meaning.{kept_of}
use Rattle.hc_slots.specs.Slots.{Owns, AreHandedOut}
use Rattle.hc_modes.specs.State.{IsKeptSo}

-- a root word after which only o may have become a prototype, and a root that was named stays
pub record KeepsRoot (o : ℕ) (t : Trail) (p : ℕ) (r : RootWord) : Type 0 where
  pub proto : p ≢ o → r.is_proto ≡ (root_in t p).is_proto
  pub map : (m : ℕ) → (root_in t p).map ≡ Some m → r.map ≡ Some m

-- a write of an operation on o: to o's own words but its cell, to slots that it owns or that are new, or one of the tree
-- that deprecates no map but those that die
abbrev pub TouchesBut : (ℕ → Type 0) → View → ℕ → Trail → Write → Type 0
TouchesBut Dies old o t (ObjectMap p h) = p ≡ o
TouchesBut Dies old o t (Store p w) = p ≡ o
TouchesBut Dies old o t (Slot s w) = s < old.used.slots → Owns old.trail o s
TouchesBut Dies old o t (Root p r) = KeepsRoot o t p r
TouchesBut Dies old o t (Bits m b) = (b.deprecated ≡ (bits_in t m).deprecated) ⊎ (Dies m × IsTrue b.deprecated)
TouchesBut Dies old o t (ObjectCell p c) = ⊥
TouchesBut Dies old o t (Validity c v) = ⊥
TouchesBut Dies old o t _ = Unit {0}

abbrev pub Touches : View → ℕ → Trail → Write → Type 0
Touches = TouchesBut NoMap

-- an operation on o came from one view to another, and some maps died
pub record ChangedBut (Dies : ℕ → Type 0) (old new : View) (o : ℕ) : Type 0 where
  pub writes : Adds (TouchesBut Dies old o) old.trail new.trail
  pub shape : new.shape ≡ old.shape
  pub slots : old.used.slots ≤ new.used.slots
  pub tree : IsTree new.trail
  pub heap : IsHeap new

abbrev pub Changed : View → View → ℕ → Type 0
Changed old new o = ChangedBut NoMap old new o

-- an object's words and slots are as they were
pub record WordsStay (old new : Trail) (p : ℕ) : Type 0 where
  pub map : map_in new p ≡ map_in old p
  pub store : store_in new p ≡ store_in old p
  pub slots : (s : ℕ) → Owns old p s → slot_in new s ≡ slot_in old s
  pub proto : (root_in new p).is_proto ≡ (root_in old p).is_proto

-- the items kept are as they were, but for one object's
pub record KeptBut (o : ℕ) (old new : List (Option Dictionary)) : Type 0 where
  pub others : (p : ℕ) → p ≢ o → kept_of new p ≡ kept_of old p
  pub there : (p : ℕ) → p ≢ o → p < length new → p < length old

-- after an operation on an object it is kept as its words say, its slots are those that it had, or new ones, and
-- where its map is private, no other object has it
pub record IsWell (old new : View) (item : Option Dictionary) (o : ℕ) : Type 0 where
  pub as_kept : IsKeptSo new.trail o item
  pub store : AreHandedOut new.used.slots (store_in new.trail o)
  pub owns : (s : ℕ) → Owns new.trail o s → s < old.used.slots → Owns old.trail o s
  pub alone : (p m : ℕ) (g : GateWord) → p ≢ o → map_in new.trail o ≡ Some m → map_in old.trail p ≡ Some m → gate_in new.trail m ≡ Some g → g.is_private ≡ false

-- a property of this key that holds so much
abbrev pub property : Key → Held → Prop
property key held = record { name = key.name; attrs = key.attrs; held = held }

-- the key of a property
abbrev pub key_of : Prop → Key
key_of p = record { name = p.name; kind = kind_of p.held; attrs = p.attrs }

-- a map has the entries of a map with n of them, and one more, with this key, whose field admits so much
pub record IsGrown (t : Trail) (m c n : ℕ) (key : Key) (detail : Detail) : Type 0 where
  pub gate : GateWord
  pub is_open : gate_in t c ≡ Some gate
  pub count : gate.entries ≡ n + 1
  pub unlocked : gate.is_locked ≡ false
  pub prototype : prototype_in t c ≡ prototype_in t m
  pub entries : HasEntriesOf t c m n
  pub last : key_at t c n ≡ Some key
  pub admits : detail_at t c n ≡ Some detail

-- an operation on an object, which is kept so afterwards, made this of it
pub record SteppedBut (Dies : ℕ → Type 0) (old new : View) (item : Option Dictionary) (o : ℕ) (x : Object) : Type 0 where
  pub changed : ChangedBut Dies old new o
  pub well : IsWell old new item o
  pub opens : OpensNoRoot old.trail new.trail
  pub value : object_shown new.trail o item (map_in new.trail o) ≡ x

abbrev pub Stepped : View → View → Option Dictionary → ℕ → Object → Type 0
Stepped old new item o x = SteppedBut NoMap old new item o x
