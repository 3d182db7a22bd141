-- Writes, each to a word of an item, with what the word says.
use Rattle.std.specs.Prelude.{ℕ, Option, Some, None, List}
use Rattle.hc_layout.specs.declared.words.GateWord.{GateWord}
use Rattle.hc_layout.specs.declared.words.MapBits.{MapBits}
use Rattle.hc_layout.specs.declared.words.ArrayWord.{ArrayWord}
use Rattle.hc_layout.specs.declared.words.RootWord.{RootWord}
use Rattle.hc_layout.specs.declared.words.StoreWord.{StoreWord}
use Rattle.hc_layout.specs.declared.words.CellWord.{CellWord}
use Rattle.hc_value.specs.declared.key.Key.{Key}
use Rattle.hc_value.specs.declared.field.Detail.{Detail}
use Rattle.hc_heap.specs.declared.kind.Kind.{Kind}
use Rattle.hc_heap.specs.declared.kind.Kind.TheVariants.{GateOfMap, ParentOfMap, PrototypeOfMap, BitsOfMap, BaseOfMap, ArrayOfMap, HeadOfMap, KeyOfEntry, ReferenceOfEntry, OwnerOfField, DetailOfField, KeyOfLink, ChildOfLink, NextOfLink, MapOfObject, RootOfObject, StoreOfObject, CellOfObject, WordOfSlot, StateOfCell}

-- one write: its item, and what the word says; a word that is not of its form is a stray one
pub data Write : Type 0 where
  Gate : ℕ → GateWord → Write
  Parent : ℕ → (Option ℕ) → Write
  Prototype : ℕ → (Option ℕ) → Write
  Bits : ℕ → MapBits → Write
  Base : ℕ → (Option ℕ) → Write
  Array : ℕ → ArrayWord → Write
  Head : ℕ → (Option ℕ) → Write
  EntryKey : ℕ → Key → Write
  Reference : ℕ → ℕ → Write
  Owner : ℕ → ℕ → Write
  FieldDetail : ℕ → Detail → Write
  LinkKey : ℕ → Key → Write
  LinkChild : ℕ → ℕ → Write
  LinkNext : ℕ → (Option ℕ) → Write
  ObjectMap : ℕ → (Option ℕ) → Write
  Root : ℕ → RootWord → Write
  Store : ℕ → StoreWord → Write
  ObjectCell : ℕ → (Option ℕ) → Write
  Slot : ℕ → ℕ → Write
  Validity : ℕ → CellWord → Write
  Stray : Write

-- all writes, the newest first
abbrev pub Trail : Type 0
Trail = List Write

-- the kind of the word that was written
abbrev pub kind_written : Write → Option Kind
kind_written (Gate _ _) = Some GateOfMap
kind_written (Parent _ _) = Some ParentOfMap
kind_written (Prototype _ _) = Some PrototypeOfMap
kind_written (Bits _ _) = Some BitsOfMap
kind_written (Base _ _) = Some BaseOfMap
kind_written (Array _ _) = Some ArrayOfMap
kind_written (Head _ _) = Some HeadOfMap
kind_written (EntryKey _ _) = Some KeyOfEntry
kind_written (Reference _ _) = Some ReferenceOfEntry
kind_written (Owner _ _) = Some OwnerOfField
kind_written (FieldDetail _ _) = Some DetailOfField
kind_written (LinkKey _ _) = Some KeyOfLink
kind_written (LinkChild _ _) = Some ChildOfLink
kind_written (LinkNext _ _) = Some NextOfLink
kind_written (ObjectMap _ _) = Some MapOfObject
kind_written (Root _ _) = Some RootOfObject
kind_written (Store _ _) = Some StoreOfObject
kind_written (ObjectCell _ _) = Some CellOfObject
kind_written (Slot _ _) = Some WordOfSlot
kind_written (Validity _ _) = Some StateOfCell
kind_written Stray = None

-- the item whose word was written
abbrev pub item_written : Write → ℕ
item_written (Gate i _) = i
item_written (Parent i _) = i
item_written (Prototype i _) = i
item_written (Bits i _) = i
item_written (Base i _) = i
item_written (Array i _) = i
item_written (Head i _) = i
item_written (EntryKey i _) = i
item_written (Reference i _) = i
item_written (Owner i _) = i
item_written (FieldDetail i _) = i
item_written (LinkKey i _) = i
item_written (LinkChild i _) = i
item_written (LinkNext i _) = i
item_written (ObjectMap i _) = i
item_written (Root i _) = i
item_written (Store i _) = i
item_written (ObjectCell i _) = i
item_written (Slot i _) = i
item_written (Validity i _) = i
item_written Stray = 0
