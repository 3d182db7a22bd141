-- Writes as the words of the board say them.
use Rattle.std.specs.Prelude.{ℕ, Bool, true, false, Option, Some, None, List, [], ◌∷◌}
use Rattle.hc_board.specs.Trail.{Access}
use Rattle.hc_layout.specs.Place.{place_of}
use Rattle.hc_layout.specs.Words.{gate_of, map_bits_of, array_of, key_of, root_of, store_of, cell_of, number_of, settled_of}
use Rattle.hc_layout.specs.declared.place.Place.{Place}
use Rattle.hc_layout.specs.declared.shape.Shape.{Shape}
use Rattle.hc_layout.specs.declared.words.KeyWord.{KeyWord}
use Rattle.hc_layout.specs.declared.words.NumberWord.{NumberWord}
use Rattle.hc_layout.specs.declared.words.SettledWord.{SettledWord}
use Rattle.hc_value.specs.Field.{detail_of}
use Rattle.hc_value.specs.declared.key.Key.{Key}
use Rattle.hc_value.specs.declared.prop.Kind.{Kind as PropertyKind}
use Rattle.hc_value.specs.declared.prop.Kind.TheVariants.{DataProp, AccessorProp}
use Rattle.hc_heap.specs.Kinds.{kind_at}
use Rattle.hc_heap.specs.declared.kind.Kind.{Kind}
use Rattle.hc_heap.specs.declared.kind.Kind.TheVariants.{GateOfMap, ParentOfMap, PrototypeOfMap, BitsOfMap, BaseOfMap, ArrayOfMap, HeadOfMap, KeyOfEntry, ReferenceOfEntry, OwnerOfField, DetailOfField, KeyOfLink, ChildOfLink, NextOfLink, MapOfObject, RootOfObject, StoreOfObject, CellOfObject, WordOfSlot, StateOfCell}
use Rattle.hc_heap.specs.Writes.{Write, Trail, Stray, Gate, Parent, Prototype, Bits, Base, Array, Head, EntryKey, Reference, Owner, FieldDetail, LinkKey, LinkChild, LinkNext, ObjectMap, Root, Store, ObjectCell, Slot, Validity}

-- the kind of a property
abbrev pub property_kind : Bool → PropertyKind
property_kind true = AccessorProp
property_kind false = DataProp

-- the key that a key word says
abbrev pub key_said : KeyWord → Key
key_said k = record { name = k.name; kind = property_kind k.is_accessor; attrs = record { 0 = k.attributes } }

-- the key of a word
abbrev pub key_in_word : Option KeyWord → Option Key
key_in_word None = None
key_in_word (Some k) = Some (key_said k)

abbrev pub key_read : ℕ → Option Key
key_read w = key_in_word (key_of w)

-- a number or none, of which either was written
abbrev pub settled_in_word : Option SettledWord → Option (Option ℕ)
settled_in_word None = None
settled_in_word (Some s) = Some s.number

abbrev pub settled_number : ℕ → Option (Option ℕ)
settled_number w = settled_in_word (settled_of w)

-- a number or none, which is none from the start
abbrev pub optional_in_word : Option NumberWord → Option (Option ℕ)
optional_in_word None = None
optional_in_word (Some n) = Some n.number

abbrev pub optional_number : ℕ → Option (Option ℕ)
optional_number w = optional_in_word (number_of w)

-- a number that is written once
abbrev pub number_in_word : Option NumberWord → Option ℕ
number_in_word None = None
number_in_word (Some n) = n.number

abbrev pub number_read : ℕ → Option ℕ
number_read w = number_in_word (number_of w)

-- a slot has any word
abbrev pub any_word : ℕ → Option ℕ
any_word w = Some w

-- a word of its form is a write of what it says, and another a stray one
abbrev pub made : {T : Type 0} → (ℕ → T → Write) → ℕ → Option T → Write
made form item None = Stray
made form item (Some said) = form item said

-- the write of a word of this kind
abbrev pub written : Kind → ℕ → ℕ → Write
written GateOfMap item w = made Gate item (gate_of w)
written ParentOfMap item w = made Parent item (settled_number w)
written PrototypeOfMap item w = made Prototype item (settled_number w)
written BitsOfMap item w = made Bits item (map_bits_of w)
written BaseOfMap item w = made Base item (optional_number w)
written ArrayOfMap item w = made Array item (array_of w)
written HeadOfMap item w = made Head item (optional_number w)
written KeyOfEntry item w = made EntryKey item (key_read w)
written ReferenceOfEntry item w = made Reference item (number_read w)
written OwnerOfField item w = made Owner item (number_read w)
written DetailOfField item w = made FieldDetail item (detail_of w)
written KeyOfLink item w = made LinkKey item (key_read w)
written ChildOfLink item w = made LinkChild item (number_read w)
written NextOfLink item w = made LinkNext item (settled_number w)
written MapOfObject item w = made ObjectMap item (optional_number w)
written RootOfObject item w = made Root item (root_of w)
written StoreOfObject item w = made Store item (store_of w)
written CellOfObject item w = made ObjectCell item (optional_number w)
written WordOfSlot item w = made Slot item (any_word w)
written StateOfCell item w = made Validity item (cell_of w)

abbrev pub written_kind : Option Kind → ℕ → ℕ → Write
written_kind None item w = Stray
written_kind (Some kind) item w = written kind item w

abbrev pub written_place : Option Place → ℕ → Write
written_place None w = Stray
written_place (Some p) w = written_kind (kind_at p.region p.word) p.item w

-- a store of the board as a write
abbrev pub write_of : Shape → Access → Write
write_of s store = written_place (place_of s store.0) store.1

-- the writes of these stores, the oldest first, in front of a trail
unfoldable pub put_before : Shape → List Access → Trail → Trail
put_before s [] t = t
put_before s (store ∷ rest) t = put_before s rest (write_of s store ∷ t)

-- the board's trail as writes
unfoldable pub typed : Shape → List Access → Trail
typed s stores = put_before s stores []
