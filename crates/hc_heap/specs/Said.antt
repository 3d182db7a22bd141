-- A word of the board says what the trail's reading says.
use Rattle.std.specs.Prelude.{◌≡◌, ℕ, if◌then◌else◌, nat_lt, Some, None, List, slice_index}
use Rattle.hc_layout.specs.Shape.{items_of}
use Rattle.hc_layout.specs.Place.{index_of}
use Rattle.hc_layout.specs.Words.{gate_of, map_bits_of, array_of, root_of, store_of, cell_of}
use Rattle.hc_layout.specs.declared.shape.Shape.{Shape}
use Rattle.hc_value.specs.Field.{detail_of}
use Rattle.hc_heap.specs.Kinds.{region_of, place_at}
use Rattle.hc_heap.specs.Decode.{key_read, settled_number, optional_number, number_read, any_word}
use Rattle.hc_heap.specs.declared.kind.Kind.{Kind}
use Rattle.hc_heap.specs.declared.kind.Kind.TheVariants.{GateOfMap, ParentOfMap, PrototypeOfMap, BitsOfMap, BaseOfMap, ArrayOfMap, HeadOfMap, KeyOfEntry, ReferenceOfEntry, OwnerOfField, DetailOfField, KeyOfLink, ChildOfLink, NextOfLink, MapOfObject, RootOfObject, StoreOfObject, CellOfObject, WordOfSlot, StateOfCell}
use Rattle.hc_heap.specs.Writes.{Trail}
use Rattle.hc_heap.specs.Readings.{no_bits, no_array, no_root, no_store, gate_in, parent_in, prototype_in, bits_in, base_in, array_in, head_in, entry_key_in, reference_in, owner_in, detail_in, link_key_in, link_child_in, link_next_in, map_in, root_in, store_in, object_cell_in, slot_in, validity_in}

-- the word of an item on a board with these words; 0 where the board has no such item
abbrev pub word_in : Shape → List ℕ → Kind → ℕ → ℕ
word_in s words kind item = if nat_lt item (items_of s (region_of kind)) then slice_index words (index_of s (place_at kind item)) else 0

-- what a word of this kind says is what the trail says of the item
abbrev pub Says : Kind → Trail → ℕ → ℕ → Type 0
Says GateOfMap t x w = gate_of w ≡ gate_in t x
Says ParentOfMap t x w = settled_number w ≡ parent_in t x
Says PrototypeOfMap t x w = settled_number w ≡ prototype_in t x
Says BitsOfMap t x w = map_bits_of w ≡ Some (bits_in t x)
Says BaseOfMap t x w = optional_number w ≡ Some (base_in t x)
Says ArrayOfMap t x w = array_of w ≡ Some (array_in t x)
Says HeadOfMap t x w = optional_number w ≡ Some (head_in t x)
Says KeyOfEntry t x w = key_read w ≡ entry_key_in t x
Says ReferenceOfEntry t x w = number_read w ≡ reference_in t x
Says OwnerOfField t x w = number_read w ≡ owner_in t x
Says DetailOfField t x w = detail_of w ≡ detail_in t x
Says KeyOfLink t x w = key_read w ≡ link_key_in t x
Says ChildOfLink t x w = number_read w ≡ link_child_in t x
Says NextOfLink t x w = settled_number w ≡ link_next_in t x
Says MapOfObject t x w = optional_number w ≡ Some (map_in t x)
Says RootOfObject t x w = root_of w ≡ Some (root_in t x)
Says StoreOfObject t x w = store_of w ≡ Some (store_in t x)
Says CellOfObject t x w = optional_number w ≡ Some (object_cell_in t x)
Says WordOfSlot t x w = any_word w ≡ Some (slot_in t x)
Says StateOfCell t x w = cell_of w ≡ validity_in t x

-- the trail says nothing yet of an item
abbrev pub SaysNothing : Kind → Trail → ℕ → Type 0
SaysNothing GateOfMap t x = gate_in t x ≡ None
SaysNothing ParentOfMap t x = parent_in t x ≡ None
SaysNothing PrototypeOfMap t x = prototype_in t x ≡ None
SaysNothing BitsOfMap t x = bits_in t x ≡ no_bits
SaysNothing BaseOfMap t x = base_in t x ≡ None
SaysNothing ArrayOfMap t x = array_in t x ≡ no_array
SaysNothing HeadOfMap t x = head_in t x ≡ None
SaysNothing KeyOfEntry t x = entry_key_in t x ≡ None
SaysNothing ReferenceOfEntry t x = reference_in t x ≡ None
SaysNothing OwnerOfField t x = owner_in t x ≡ None
SaysNothing DetailOfField t x = detail_in t x ≡ None
SaysNothing KeyOfLink t x = link_key_in t x ≡ None
SaysNothing ChildOfLink t x = link_child_in t x ≡ None
SaysNothing NextOfLink t x = link_next_in t x ≡ None
SaysNothing MapOfObject t x = map_in t x ≡ None
SaysNothing RootOfObject t x = root_in t x ≡ no_root
SaysNothing StoreOfObject t x = store_in t x ≡ no_store
SaysNothing CellOfObject t x = object_cell_in t x ≡ None
SaysNothing WordOfSlot t x = slot_in t x ≡ 0
SaysNothing StateOfCell t x = validity_in t x ≡ None
