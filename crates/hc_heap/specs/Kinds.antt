-- The kinds of words, each with its region and its place in an item.
use Rattle.std.specs.Prelude.{ℕ, ◌==◌, if◌then◌else◌, Option, Some, None}
use Rattle.hc_layout.specs.declared.place.Place.{Place}
use Rattle.hc_layout.specs.declared.shape.Region.{Region}
use Rattle.hc_layout.specs.declared.shape.Region.TheVariants.{Maps, Entries, Fields, Links, Objects, Slots, Cells}
use Rattle.hc_heap.specs.declared.kind.Kind.{Kind}
use Rattle.hc_heap.specs.declared.kind.Kind.TheVariants.{GateOfMap, ParentOfMap, PrototypeOfMap, BitsOfMap, BaseOfMap, ArrayOfMap, HeadOfMap, KeyOfEntry, ReferenceOfEntry, OwnerOfField, DetailOfField, KeyOfLink, ChildOfLink, NextOfLink, MapOfObject, RootOfObject, StoreOfObject, CellOfObject, WordOfSlot, StateOfCell}

-- the region whose items have a word of this kind
abbrev pub region_of : Kind → Region
region_of GateOfMap = Maps
region_of ParentOfMap = Maps
region_of PrototypeOfMap = Maps
region_of BitsOfMap = Maps
region_of BaseOfMap = Maps
region_of ArrayOfMap = Maps
region_of HeadOfMap = Maps
region_of KeyOfEntry = Entries
region_of ReferenceOfEntry = Entries
region_of OwnerOfField = Fields
region_of DetailOfField = Fields
region_of KeyOfLink = Links
region_of ChildOfLink = Links
region_of NextOfLink = Links
region_of MapOfObject = Objects
region_of RootOfObject = Objects
region_of StoreOfObject = Objects
region_of CellOfObject = Objects
region_of WordOfSlot = Slots
region_of StateOfCell = Cells

-- which word of an item it is
abbrev pub word_of : Kind → ℕ
word_of GateOfMap = 0
word_of ParentOfMap = 1
word_of PrototypeOfMap = 2
word_of BitsOfMap = 3
word_of BaseOfMap = 4
word_of ArrayOfMap = 5
word_of HeadOfMap = 6
word_of KeyOfEntry = 0
word_of ReferenceOfEntry = 1
word_of OwnerOfField = 0
word_of DetailOfField = 1
word_of KeyOfLink = 0
word_of ChildOfLink = 1
word_of NextOfLink = 2
word_of MapOfObject = 0
word_of RootOfObject = 1
word_of StoreOfObject = 2
word_of CellOfObject = 3
word_of WordOfSlot = 0
word_of StateOfCell = 0

-- the place of an item's word
abbrev pub place_at : Kind → ℕ → Place
place_at kind item = record { region = region_of kind; item = item; word = word_of kind }

-- the kind of a word of an item
abbrev pub kind_at : Region → ℕ → Option Kind
kind_at Maps w = if w == 0 then Some GateOfMap else (if w == 1 then Some ParentOfMap else (if w == 2 then Some PrototypeOfMap else (if w == 3 then Some BitsOfMap else (if w == 4 then Some BaseOfMap else (if w == 5 then Some ArrayOfMap else (if w == 6 then Some HeadOfMap else None))))))
kind_at Entries w = if w == 0 then Some KeyOfEntry else (if w == 1 then Some ReferenceOfEntry else None)
kind_at Fields w = if w == 0 then Some OwnerOfField else (if w == 1 then Some DetailOfField else None)
kind_at Links w = if w == 0 then Some KeyOfLink else (if w == 1 then Some ChildOfLink else (if w == 2 then Some NextOfLink else None))
kind_at Objects w = if w == 0 then Some MapOfObject else (if w == 1 then Some RootOfObject else (if w == 2 then Some StoreOfObject else (if w == 3 then Some CellOfObject else None)))
kind_at Slots w = if w == 0 then Some WordOfSlot else None
kind_at Cells w = if w == 0 then Some StateOfCell else None
