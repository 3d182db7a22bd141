-- What the words say after a trail: of each word, the newest write.
use Rattle.std.specs.Prelude.{ℕ, ◌==◌, if◌then◌else◌, false, Option, Some, None, [], ◌∷◌}
use Rattle.hc_layout.specs.declared.words.GateWord.{GateWord}
use Rattle.hc_layout.specs.declared.words.MapBits.{MapBits}
use Rattle.hc_layout.specs.declared.words.ArrayWord.{ArrayWord}
use Rattle.hc_layout.specs.declared.words.RootWord.{RootWord}
use Rattle.hc_layout.specs.declared.words.StoreWord.{StoreWord}
use Rattle.hc_layout.specs.declared.words.CellWord.{CellWord}
use Rattle.hc_value.specs.declared.key.Key.{Key}
use Rattle.hc_value.specs.declared.field.Detail.{Detail}
use Rattle.hc_heap.specs.Writes.{Trail, Gate, Parent, Prototype, Bits, Base, Array, Head, EntryKey, Reference, Owner, FieldDetail, LinkKey, LinkChild, LinkNext, ObjectMap, Root, Store, ObjectCell, Slot, Validity}

-- a map that is neither unstable nor deprecated
abbrev pub no_bits : MapBits
no_bits = record { unstable = false; deprecated = false }

-- a map that has no array
abbrev pub no_array : ArrayWord
no_array = record { owner = false; capacity = 0 }

-- an object that never was a prototype
abbrev pub no_root : RootWord
no_root = record { is_proto = false; map = None }

-- an object that has no slots
abbrev pub no_store : StoreWord
no_store = record { capacity = 0; first = None }

-- the gate of a map, if it was written
abbrev pub gate_in : Trail → ℕ → Option GateWord
gate_in [] x = None
gate_in (Gate i v ∷ t) x = if i == x then Some v else gate_in t x
gate_in (_ ∷ t) x = gate_in t x

-- the parent of a map, or that it has none, if it was written
abbrev pub parent_in : Trail → ℕ → Option (Option ℕ)
parent_in [] x = None
parent_in (Parent i v ∷ t) x = if i == x then Some v else parent_in t x
parent_in (_ ∷ t) x = parent_in t x

-- the prototype of a map, or that it is null, if it was written
abbrev pub prototype_in : Trail → ℕ → Option (Option ℕ)
prototype_in [] x = None
prototype_in (Prototype i v ∷ t) x = if i == x then Some v else prototype_in t x
prototype_in (_ ∷ t) x = prototype_in t x

-- whether a map is unstable, and whether it is deprecated
abbrev pub bits_in : Trail → ℕ → MapBits
bits_in [] x = no_bits
bits_in (Bits i v ∷ t) x = if i == x then v else bits_in t x
bits_in (_ ∷ t) x = bits_in t x

-- the first of a map's entries
abbrev pub base_in : Trail → ℕ → Option ℕ
base_in [] x = None
base_in (Base i v ∷ t) x = if i == x then v else base_in t x
base_in (_ ∷ t) x = base_in t x

-- the array of a map
abbrev pub array_in : Trail → ℕ → ArrayWord
array_in [] x = no_array
array_in (Array i v ∷ t) x = if i == x then v else array_in t x
array_in (_ ∷ t) x = array_in t x

-- the link that a map put in last
abbrev pub head_in : Trail → ℕ → Option ℕ
head_in [] x = None
head_in (Head i v ∷ t) x = if i == x then v else head_in t x
head_in (_ ∷ t) x = head_in t x

-- the key of an entry, if it was written
abbrev pub entry_key_in : Trail → ℕ → Option Key
entry_key_in [] x = None
entry_key_in (EntryKey i v ∷ t) x = if i == x then Some v else entry_key_in t x
entry_key_in (_ ∷ t) x = entry_key_in t x

-- the field of an entry, if it was written
abbrev pub reference_in : Trail → ℕ → Option ℕ
reference_in [] x = None
reference_in (Reference i v ∷ t) x = if i == x then Some v else reference_in t x
reference_in (_ ∷ t) x = reference_in t x

-- the map for which a field was made, if it was written
abbrev pub owner_in : Trail → ℕ → Option ℕ
owner_in [] x = None
owner_in (Owner i v ∷ t) x = if i == x then Some v else owner_in t x
owner_in (_ ∷ t) x = owner_in t x

-- what a field admits, if it was written
abbrev pub detail_in : Trail → ℕ → Option Detail
detail_in [] x = None
detail_in (FieldDetail i v ∷ t) x = if i == x then Some v else detail_in t x
detail_in (_ ∷ t) x = detail_in t x

-- the key of a link, if it was written
abbrev pub link_key_in : Trail → ℕ → Option Key
link_key_in [] x = None
link_key_in (LinkKey i v ∷ t) x = if i == x then Some v else link_key_in t x
link_key_in (_ ∷ t) x = link_key_in t x

-- the map to which a link leads, if it was written
abbrev pub link_child_in : Trail → ℕ → Option ℕ
link_child_in [] x = None
link_child_in (LinkChild i v ∷ t) x = if i == x then Some v else link_child_in t x
link_child_in (_ ∷ t) x = link_child_in t x

-- the link after a link, or that it is the last, if it was written
abbrev pub link_next_in : Trail → ℕ → Option (Option ℕ)
link_next_in [] x = None
link_next_in (LinkNext i v ∷ t) x = if i == x then Some v else link_next_in t x
link_next_in (_ ∷ t) x = link_next_in t x

-- the map of an object; none while it is slow or not made
abbrev pub map_in : Trail → ℕ → Option ℕ
map_in [] x = None
map_in (ObjectMap i v ∷ t) x = if i == x then v else map_in t x
map_in (_ ∷ t) x = map_in t x

-- whether an object is or was a prototype, and the root of the maps that have it as theirs
abbrev pub root_in : Trail → ℕ → RootWord
root_in [] x = no_root
root_in (Root i v ∷ t) x = if i == x then v else root_in t x
root_in (_ ∷ t) x = root_in t x

-- the slots of an object
abbrev pub store_in : Trail → ℕ → StoreWord
store_in [] x = no_store
store_in (Store i v ∷ t) x = if i == x then v else store_in t x
store_in (_ ∷ t) x = store_in t x

-- the validity cell of an object
abbrev pub object_cell_in : Trail → ℕ → Option ℕ
object_cell_in [] x = None
object_cell_in (ObjectCell i v ∷ t) x = if i == x then v else object_cell_in t x
object_cell_in (_ ∷ t) x = object_cell_in t x

-- the word of a slot
abbrev pub slot_in : Trail → ℕ → ℕ
slot_in [] x = 0
slot_in (Slot i v ∷ t) x = if i == x then v else slot_in t x
slot_in (_ ∷ t) x = slot_in t x

-- a validity cell, if it was written
abbrev pub validity_in : Trail → ℕ → Option CellWord
validity_in [] x = None
validity_in (Validity i v ∷ t) x = if i == x then Some v else validity_in t x
validity_in (_ ∷ t) x = validity_in t x
