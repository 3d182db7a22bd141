-- Lawful writes, by the kind of the word, and lawful trails.
use Rattle.std.specs.Prelude.{◌≡◌, ℕ, ◌+◌, ◌<◌, ◌≤◌, ◌^◌, true, false, IsTrue, Option, Some, None, IsSome, IfSome, IsSomeAnd, [], ◌∷◌}
use Rattle.hc_layout.specs.Shape.{items_of}
use Rattle.hc_layout.specs.declared.shape.Shape.{Shape}
use Rattle.hc_layout.specs.declared.capacity.TheConstants.{MAX_FAST}
use Rattle.hc_layout.specs.declared.words.TheConstants.{COUNT_BITS, ATTRIBUTE_BITS, NAME_BITS}
use Rattle.hc_layout.specs.declared.words.GateWord.{GateWord}
use Rattle.hc_layout.specs.declared.words.MapBits.{MapBits}
use Rattle.hc_layout.specs.declared.words.ArrayWord.{ArrayWord}
use Rattle.hc_layout.specs.declared.words.RootWord.{RootWord}
use Rattle.hc_layout.specs.declared.words.StoreWord.{StoreWord}
use Rattle.hc_layout.specs.declared.words.CellWord.{CellWord}
use Rattle.hc_value.specs.Attrs.{bits_of}
use Rattle.hc_value.specs.Field.{in_place_of, is_detail_within, IsClassInRange}
use Rattle.hc_value.specs.Word.{unwide_of, untagged_of, unpair_of}
use Rattle.hc_value.specs.declared.key.Key.{Key}
use Rattle.hc_value.specs.declared.prop.Kind.{Kind as PropertyKind}
use Rattle.hc_value.specs.declared.prop.Kind.TheVariants.{DataProp, AccessorProp}
use Rattle.hc_value.specs.declared.field.Rep.{Rep}
use Rattle.hc_value.specs.declared.field.Rep.TheVariants.{Smi, Wide, HeapObject, Tagged}
use Rattle.hc_value.specs.declared.field.Class.{Class}
use Rattle.hc_value.specs.declared.field.Class.TheVariants.{Of, Any}
use Rattle.hc_value.specs.declared.field.Detail.{Detail}
use Rattle.hc_heap.specs.declared.kind.Kind.{Kind}
use Rattle.hc_heap.specs.Kinds.{region_of}
use Rattle.hc_heap.specs.Writes.{Write, Trail, kind_written, item_written, Stray, Gate, Parent, Prototype, Bits, Base, Array, Head, EntryKey, Reference, Owner, FieldDetail, LinkKey, LinkChild, LinkNext, ObjectMap, Root, Store, ObjectCell, Slot, Validity}
use Rattle.hc_heap.specs.Readings.{gate_in, parent_in, prototype_in, bits_in, base_in, head_in, entry_key_in, reference_in, owner_in, detail_in, link_key_in, link_child_in, link_next_in, map_in, root_in, store_in, slot_in, validity_in}

-- Maps

-- the key of the k-th entry from a base on
abbrev pub key_from : Trail → Option ℕ → ℕ → Option Key
key_from t None k = None
key_from t (Some e) k = entry_key_in t (e + k)

-- the field of the k-th entry from a base on
abbrev pub field_from : Trail → Option ℕ → ℕ → Option ℕ
field_from t None k = None
field_from t (Some e) k = reference_in t (e + k)

-- a field has its owner and its detail
pub record IsField (t : Trail) (f : ℕ) : Type 0 where
  pub owner : IsSome (owner_in t f)
  pub detail : IsSome (detail_in t f)

-- the first entries from a base on are written, and the fields that they name are made
pub record HaveEntries (t : Trail) (base : Option ℕ) (n : ℕ) : Type 0 where
  pub keys : (k : ℕ) → k < n → IsSome (key_from t base k)
  pub fields : (k : ℕ) → k < n → IsSomeAnd (field_from t base k) (λ f. IsField t f)

-- a gate is written once, after all that a map's first entries say
pub record LawfulGate (s : Shape) (t : Trail) (m : ℕ) (g : GateWord) : Type 0 where
  pub unwritten : gate_in t m ≡ None
  pub parent : IsSome (parent_in t m)
  pub prototype : IsSome (prototype_in t m)
  pub few : g.entries ≤ MAX_FAST
  pub entries : HaveEntries t (base_in t m) g.entries

-- a parent is written once, and is a map
pub record LawfulParent (s : Shape) (t : Trail) (m : ℕ) (p : Option ℕ) : Type 0 where
  pub unwritten : parent_in t m ≡ None
  pub there : IfSome p (λ q. q < s.maps)

-- a prototype is written once, and is an object that was made a prototype
pub record LawfulPrototype (s : Shape) (t : Trail) (m : ℕ) (p : Option ℕ) : Type 0 where
  pub unwritten : prototype_in t m ≡ None
  pub there : IfSome p (λ o. o < s.objects)
  pub marked : IfSome p (λ o. IsTrue (root_in t o).is_proto)

-- bits are only set, and a deprecated map is unstable
pub record LawfulBits (s : Shape) (t : Trail) (m : ℕ) (b : MapBits) : Type 0 where
  pub unstable : IsTrue (bits_in t m).unstable → IsTrue b.unstable
  pub deprecated : IsTrue (bits_in t m).deprecated → IsTrue b.deprecated
  pub together : IsTrue b.deprecated → IsTrue b.unstable

-- the first entries from two bases on have the same keys and fields
pub record SameEntries (t : Trail) (a b : Option ℕ) (n : ℕ) : Type 0 where
  pub keys : (k : ℕ) → k < n → key_from t b k ≡ key_from t a k
  pub fields : (k : ℕ) → k < n → field_from t b k ≡ field_from t a k

-- a base of a map whose gate is written moves only to entries that are the same
pub record LawfulBase (s : Shape) (t : Trail) (m : ℕ) (b : Option ℕ) : Type 0 where
  pub there : IfSome b (λ e. e < s.entries)
  pub same : IfSome (gate_in t m) (λ g. SameEntries t (base_in t m) b g.entries)

-- the array of a map is free
pub record LawfulArray (s : Shape) (t : Trail) (m : ℕ) (a : ArrayWord) : Type 0 where
  pub form : a.capacity < 2 ^ COUNT_BITS

-- a key of data has an entry in the map to which its link leads
abbrev pub HasEntryFor : Key → GateWord → Type 0
HasEntryFor key g = key.kind ≡ DataProp → 0 < g.entries

-- a map is a child of another, by the link with this key
pub record IsChildBy (t : Trail) (m c : ℕ) (key : Key) : Type 0 where
  pub gate : IsSomeAnd (gate_in t c) (λ g. HasEntryFor key g)
  pub parent : parent_in t c ≡ Some (Some m)

-- a head moves only to a whole link, in front of the links before
pub record LawfulLinkIn (s : Shape) (t : Trail) (m l : ℕ) : Type 0 where
  pub there : l < s.links
  pub unstable : IsTrue (bits_in t m).unstable
  pub next : link_next_in t l ≡ Some (head_in t m)
  pub child : IsSomeAnd (link_key_in t l) (λ key. IsSomeAnd (link_child_in t l) (λ c. IsChildBy t m c key))

-- a map that has a link keeps one
abbrev pub LawfulHead : Shape → Trail → ℕ → Option ℕ → Type 0
LawfulHead s t m None = ⊥
LawfulHead s t m (Some l) = LawfulLinkIn s t m l

-- Entries and fields

-- a key may be given to a word
pub record IsKey (key : Key) : Type 0 where
  pub name : key.name < 2 ^ NAME_BITS
  pub attributes : bits_of key.attrs < 2 ^ ATTRIBUTE_BITS

-- an entry's key is written once
pub record LawfulEntryKey (s : Shape) (t : Trail) (e : ℕ) (key : Key) : Type 0 where
  pub unwritten : entry_key_in t e ≡ None
  pub form : IsKey key

-- an entry's field is written once
pub record LawfulReference (s : Shape) (t : Trail) (e f : ℕ) : Type 0 where
  pub unwritten : reference_in t e ≡ None
  pub there : f < s.fields

-- a field's owner is written once
pub record LawfulOwner (s : Shape) (t : Trail) (f m : ℕ) : Type 0 where
  pub unwritten : owner_in t f ≡ None
  pub there : m < s.maps

-- the map of a class has its gate
abbrev pub IsClassThere : Shape → Trail → Class → Type 0
IsClassThere s t (Of m) = (m < s.maps) × IsSome (gate_in t m)
IsClassThere s t Any = Unit {0}

-- a detail rises to a join in place
pub record RisesTo (d e : Detail) : Type 0 where
  pub in_place : IsTrue (in_place_of d.rep e.rep)
  pub within : IsTrue (is_detail_within d e)

-- a detail is written, and then only rises
pub record LawfulDetail (s : Shape) (t : Trail) (f : ℕ) (d : Detail) : Type 0 where
  pub form : IsClassInRange d.class
  pub there : IsClassThere s t d.class
  pub rises : IfSome (detail_in t f) (λ e. RisesTo e d)

-- Links

-- a link's key is written once
pub record LawfulLinkKey (s : Shape) (t : Trail) (l : ℕ) (key : Key) : Type 0 where
  pub unwritten : link_key_in t l ≡ None
  pub form : IsKey key

-- a link's child is written once
pub record LawfulLinkChild (s : Shape) (t : Trail) (l c : ℕ) : Type 0 where
  pub unwritten : link_child_in t l ≡ None
  pub there : c < s.maps

-- a link's next is written once
pub record LawfulLinkNext (s : Shape) (t : Trail) (l : ℕ) (n : Option ℕ) : Type 0 where
  pub unwritten : link_next_in t l ≡ None
  pub there : IfSome n (λ k. k < s.links)

-- Objects

-- a slot's word is one of its form: a pair for an accessor, an integer alone for a wide field, and else a value
abbrev pub IsFormOf : PropertyKind → Rep → ℕ → Type 0
IsFormOf AccessorProp r w = IsSome (unpair_of w)
IsFormOf DataProp Wide w = IsSome (unwide_of w)
IsFormOf DataProp Smi w = IsSome (untagged_of w)
IsFormOf DataProp HeapObject w = IsSome (untagged_of w)
IsFormOf DataProp Tagged w = IsSome (untagged_of w)

-- the word of the k-th slot from a first one on
abbrev pub word_from : Trail → Option ℕ → ℕ → ℕ
word_from t None k = 0
word_from t (Some first) k = slot_in t (first + k)

-- the word of an object's k-th slot
abbrev pub slot_word : Trail → ℕ → ℕ → ℕ
slot_word t o k = word_from t (store_in t o).first k

-- the word of an object's k-th slot is of the form that the k-th entry of a map asks
abbrev pub HoldsEntry : Trail → ℕ → ℕ → ℕ → Type 0
HoldsEntry t o m k =
    IsSomeAnd (key_from t (base_in t m) k) (λ key.
    IsSomeAnd (field_from t (base_in t m) k) (λ f.
    IsSomeAnd (detail_in t f) (λ d. IsFormOf key.kind d.rep (slot_word t o k))))

-- an object's slots hold what a map with this gate asks
pub record HoldsEntries (t : Trail) (o m : ℕ) (g : GateWord) : Type 0 where
  pub capacity : g.entries ≤ (store_in t o).capacity
  pub slots : (k : ℕ) → k < g.entries → HoldsEntry t o m k

-- a map is private and not unstable
pub record IsOwnMap (t : Trail) (m : ℕ) : Type 0 where
  pub private : IsSomeAnd (gate_in t m) (λ g. IsTrue g.is_private)
  pub stable : (bits_in t m).unstable ≡ false

-- an object may get a map: the map is whole, the object's slots are filled, and a prototype's map is its own
pub record MayHave (s : Shape) (t : Trail) (o m : ℕ) : Type 0 where
  pub there : m < s.maps
  pub filled : IsSomeAnd (gate_in t m) (λ g. HoldsEntries t o m g)
  pub own : IsTrue (root_in t o).is_proto → IsOwnMap t m

-- an object leaves its map only after that map is unstable
pub record LawfulObjectMap (s : Shape) (t : Trail) (o : ℕ) (h : Option ℕ) : Type 0 where
  pub leaves : IfSome (map_in t o) (λ m. IsTrue (bits_in t m).unstable)
  pub gets : IfSome h (λ m. MayHave s t o m)

-- a prototype's bit stays, and is set only while the object is slow or has a map of its own
pub record LawfulRoot (s : Shape) (t : Trail) (o : ℕ) (r : RootWord) : Type 0 where
  pub stays : IsTrue (root_in t o).is_proto → IsTrue r.is_proto
  pub marks : (root_in t o).is_proto ≡ false → IsTrue r.is_proto → IfSome (map_in t o) (λ m. IsOwnMap t m)
  pub there : IfSome r.map (λ m. m < s.maps)

-- that many slots from a first one on are there
abbrev pub AreSlots : Shape → StoreWord → Type 0
AreSlots s w = IfSome w.first (λ first. (first < s.slots) × (first + w.capacity ≤ s.slots))

-- an object's slots move only while it is slow or its map is unstable, and are never fewer
pub record LawfulStore (s : Shape) (t : Trail) (o : ℕ) (w : StoreWord) : Type 0 where
  pub form : w.capacity < 2 ^ COUNT_BITS
  pub free : IfSome (map_in t o) (λ m. IsTrue (bits_in t m).unstable)
  pub grows : (store_in t o).capacity ≤ w.capacity
  pub first : 0 < w.capacity → IsSome w.first
  pub there : AreSlots s w

-- an object's cell is free
pub record LawfulObjectCell (s : Shape) (t : Trail) (o : ℕ) (c : Option ℕ) : Type 0 where
  pub there : IfSome c (λ k. k < s.cells)

-- a cell is written, and then only becomes invalid
pub record LawfulValidity (s : Shape) (t : Trail) (c : ℕ) (v : CellWord) : Type 0 where
  pub there : v.object < s.objects
  pub falls : IfSome (validity_in t c) (λ old. v ≡ record old { invalid = true })

-- All words

-- a write is lawful after a trail
abbrev pub LawfulWrite : Shape → Trail → Write → Type 0
LawfulWrite s t (Gate m g) = LawfulGate s t m g
LawfulWrite s t (Parent m p) = LawfulParent s t m p
LawfulWrite s t (Prototype m p) = LawfulPrototype s t m p
LawfulWrite s t (Bits m b) = LawfulBits s t m b
LawfulWrite s t (Base m b) = LawfulBase s t m b
LawfulWrite s t (Array m a) = LawfulArray s t m a
LawfulWrite s t (Head m h) = LawfulHead s t m h
LawfulWrite s t (EntryKey e key) = LawfulEntryKey s t e key
LawfulWrite s t (Reference e f) = LawfulReference s t e f
LawfulWrite s t (Owner f m) = LawfulOwner s t f m
LawfulWrite s t (FieldDetail f d) = LawfulDetail s t f d
LawfulWrite s t (LinkKey l key) = LawfulLinkKey s t l key
LawfulWrite s t (LinkChild l c) = LawfulLinkChild s t l c
LawfulWrite s t (LinkNext l n) = LawfulLinkNext s t l n
LawfulWrite s t (ObjectMap o h) = LawfulObjectMap s t o h
LawfulWrite s t (Root o r) = LawfulRoot s t o r
LawfulWrite s t (Store o w) = LawfulStore s t o w
LawfulWrite s t (ObjectCell o c) = LawfulObjectCell s t o c
LawfulWrite s t (Slot x w) = Unit {0}
LawfulWrite s t (Validity c v) = LawfulValidity s t c v
LawfulWrite s t Stray = ⊥

-- the items of a kind of word, by a count for each region
abbrev pub IsAmong : Shape → Kind → ℕ → Type 0
IsAmong counts kind item = item < items_of counts (region_of kind)

-- the item of a write is one of these
abbrev pub IsWithin : Shape → Write → Type 0
IsWithin counts w = IfSome (kind_written w) (λ kind. IsAmong counts kind (item_written w))

-- each write is lawful after the writes before it, and to an item of the board
pub record IsLawful (s : Shape) (t : Trail) (w : Write) : Type 0 where
  pub within : IsWithin s w
  pub lawful : LawfulWrite s t w

unfoldable pub Lawful : Shape → Trail → Type 0
Lawful s [] = Unit {0}
Lawful s (w ∷ t) = Lawful s t × IsLawful s t w

-- only items among these were written
unfoldable pub AllWithin : Shape → Trail → Type 0
AllWithin counts [] = Unit {0}
AllWithin counts (w ∷ t) = AllWithin counts t × IsWithin counts w
