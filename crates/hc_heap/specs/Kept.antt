-- What a lawful trail keeps for good, each law the contract of a function of `laws.rt`.
use Rattle.std.specs.Prelude.{◌≡◌, ℕ, ◌+◌, ◌-◌, ◌<◌, ◌≤◌, false, IsTrue, Option, Some, IsSome, IfSome, IsSomeAnd, List, [], ◌∷◌, ◌++◌, length, take, drop}
use Rattle.hc_board.specs.Trail.{Access, word_at}
use Rattle.hc_layout.specs.Shape.{items_of, words_of}
use Rattle.hc_layout.specs.Place.{index_of}
use Rattle.hc_layout.specs.declared.shape.Shape.{Shape}
use Rattle.hc_layout.specs.declared.capacity.TheConstants.{MAX_FAST}
use Rattle.hc_layout.specs.declared.words.GateWord.{GateWord}
use Rattle.hc_layout.specs.declared.words.CellWord.{CellWord}
use Rattle.hc_value.specs.Field.{IsClassInRange}
use Rattle.hc_value.specs.declared.field.Detail.{Detail}
use Rattle.hc_value.specs.declared.key.Key.{Key}
use Rattle.hc_heap.specs.Writes.{Write, Trail}
use Rattle.hc_heap.specs.Decode.{typed}
use Rattle.hc_heap.specs.Readings.{gate_in, parent_in, prototype_in, bits_in, base_in, head_in, entry_key_in, reference_in, owner_in, detail_in, link_key_in, link_child_in, link_next_in, map_in, root_in, store_in, validity_in}
use Rattle.hc_heap.specs.Lawful.{Lawful, RisesTo, HaveEntries, IsAmong, AllWithin, IsKey, IsClassThere, AreSlots, key_from, field_from}
use Rattle.hc_heap.specs.Kinds.{region_of, place_at}
use Rattle.hc_heap.specs.Said.{Says, SaysNothing}
use Rattle.hc_heap.specs.declared.kind.Kind.{Kind}

-- the first writes of a trail, as many as the position says
abbrev pub at : ℕ → Trail → Trail
at position t = drop (length t - position) t

-- each of these writes, in front of a trail, is one of which P holds after the writes before it
unfoldable pub AllMeet : (Trail → Write → Type 0) → Trail → List Write → Type 0
AllMeet P old [] = Unit {0}
AllMeet P old (w ∷ more) = AllMeet P old more × P (more ++ old) w

-- the second trail is the first with more writes, of each of which P holds
pub record Adds (P : Trail → Write → Type 0) (old new : Trail) : Type 0 where
  pub more : List Write
  pub is : new ≡ more ++ old
  pub meets : AllMeet P old more

-- the second trail is a lawful one that goes on from the first
pub record GoesOn (s : Shape) (old new : Trail) : Type 0 where
  pub more : List Write
  pub is : new ≡ more ++ old
  pub lawful : Lawful s new

-- what was read stays
abbrev pub Stays : {T : Type 0} → (Trail → ℕ → Option T) → Trail → Trail → Type 0
Stays {T} reading old new = (x : ℕ) (v : T) → reading old x ≡ Some v → reading new x ≡ Some v

-- words that are written once
pub record WrittenStays (old new : Trail) : Type 0 where
  pub gate : Stays gate_in old new
  pub parent : Stays parent_in old new
  pub prototype : Stays prototype_in old new
  pub entry_key : Stays entry_key_in old new
  pub reference : Stays reference_in old new
  pub owner : Stays owner_in old new
  pub link_key : Stays link_key_in old new
  pub link_child : Stays link_child_in old new
  pub link_next : Stays link_next_in old new

-- bits are only set, a cell only becomes invalid, and a prototype's bit stays
pub record OnlySet (old new : Trail) : Type 0 where
  pub unstable : (m : ℕ) → IsTrue (bits_in old m).unstable → IsTrue (bits_in new m).unstable
  pub deprecated : (m : ℕ) → IsTrue (bits_in old m).deprecated → IsTrue (bits_in new m).deprecated
  pub invalid : (c : ℕ) (v : CellWord) → validity_in old c ≡ Some v → IsSomeAnd (validity_in new c) (λ w. (w.object ≡ v.object) × (IsTrue v.invalid → IsTrue w.invalid))
  pub prototype : (o : ℕ) → IsTrue (root_in old o).is_proto → IsTrue (root_in new o).is_proto

-- the trail goes on, and each of its parts is lawful
abbrev pub LawfulAtEach : Type 0
LawfulAtEach = (s : Shape) (t : Trail) (position : ℕ) → Lawful s t → Lawful s (at position t)

-- a later position goes on from an earlier one
abbrev pub PositionsGoOn : Type 0
PositionsGoOn = (s : Shape) (t : Trail) (from upto : ℕ) → from ≤ upto → Lawful s t → GoesOn s (at from t) (at upto t)

-- the first writes are those of the board's first stores
abbrev pub PositionsAreStores : Type 0
PositionsAreStores = (s : Shape) (stores : List Access) (position : ℕ) → typed s (take position stores) ≡ at position (typed s stores)

abbrev pub WrittenIsKept : Type 0
WrittenIsKept = (s : Shape) (old new : Trail) → GoesOn s old new → WrittenStays old new

-- a deprecated map is unstable
abbrev pub DeprecatedAreUnstable : Type 0
DeprecatedAreUnstable = (s : Shape) (t : Trail) (m : ℕ) → Lawful s t → IsTrue (bits_in t m).deprecated → IsTrue (bits_in t m).unstable

abbrev pub SetIsKept : Type 0
SetIsKept = (s : Shape) (old new : Trail) → GoesOn s old new → OnlySet old new

-- a map whose gate is written keeps its first entries, whatever base was read since, and whenever its entries are
pub record EntriesStay (old middle new : Trail) (m k : ℕ) : Type 0 where
  pub key : key_from new (base_in middle m) k ≡ key_from old (base_in old m) k
  pub field : field_from new (base_in middle m) k ≡ field_from old (base_in old m) k
  pub written : IsSome (key_from old (base_in old m) k)
  pub made : IsSome (field_from old (base_in old m) k)

abbrev pub EntriesAreKept : Type 0
EntriesAreKept = (s : Shape) (old middle new : Trail) (m : ℕ) (g : GateWord) (k : ℕ) → GoesOn s old middle → GoesOn s middle new → gate_in old m ≡ Some g → k < g.entries → EntriesStay old middle new m k

abbrev pub DetailsRise : Type 0
DetailsRise = (s : Shape) (old new : Trail) (f : ℕ) (d : Detail) → GoesOn s old new → detail_in old f ≡ Some d → IsSomeAnd (detail_in new f) (λ e. RisesTo d e)

-- where an object had a map that isn't unstable later on, it has that map then, and the slots that it had
pub record ObjectStays (old new : Trail) (o h : ℕ) : Type 0 where
  pub map : map_in new o ≡ Some h
  pub store : store_in new o ≡ store_in old o

abbrev pub StableIsKept : Type 0
StableIsKept = (s : Shape) (old new : Trail) (o h : ℕ) → GoesOn s old new → map_in old o ≡ Some h → (bits_in new h).unstable ≡ false → ObjectStays old new o h

-- a map whose gate is written has all that the gate was written after
pub record IsOpen (t : Trail) (m : ℕ) (g : GateWord) : Type 0 where
  pub parent : IsSome (parent_in t m)
  pub prototype : IsSome (prototype_in t m)
  pub few : g.entries ≤ MAX_FAST
  pub entries : HaveEntries t (base_in t m) g.entries

abbrev pub GatesAreOpen : Type 0
GatesAreOpen = (s : Shape) (t : Trail) (m : ℕ) (g : GateWord) → Lawful s t → gate_in t m ≡ Some g → IsOpen t m g

-- an object's map is open, and the object has a slot for each of its entries
pub record HasPlacesFor (s : Shape) (t : Trail) (o m : ℕ) : Type 0 where
  pub there : m < s.maps
  pub is_open : IsSomeAnd (gate_in t m) (λ g. g.entries ≤ (store_in t o).capacity)

-- what a word says is of the form that its write asked, and names what is there
pub record FormsHold (s : Shape) (t : Trail) : Type 0 where
  pub entry_key : (e : ℕ) (key : Key) → entry_key_in t e ≡ Some key → IsKey key
  pub reference : (e f : ℕ) → reference_in t e ≡ Some f → f < s.fields
  pub class : (f : ℕ) (d : Detail) → detail_in t f ≡ Some d → IsClassInRange d.class × IsClassThere s t d.class
  pub link_key : (l : ℕ) (key : Key) → link_key_in t l ≡ Some key → IsKey key
  pub prototype : (m o : ℕ) → prototype_in t m ≡ Some (Some o) → (o < s.objects) × IsTrue (root_in t o).is_proto
  pub slots : (o : ℕ) → AreSlots s (store_in t o)
  pub first : (o : ℕ) → 0 < (store_in t o).capacity → IsSome (store_in t o).first
  pub parent : (m : ℕ) (p : Option ℕ) → parent_in t m ≡ Some p → IfSome p (λ q. q < s.maps)
  pub owner : (f m : ℕ) → owner_in t f ≡ Some m → m < s.maps
  pub head : (m : ℕ) → IfSome (head_in t m) (λ l. l < s.links)
  pub link_child : (l c : ℕ) → link_child_in t l ≡ Some c → c < s.maps
  pub link_next : (l : ℕ) (n : Option ℕ) → link_next_in t l ≡ Some n → IfSome n (λ k. k < s.links)
  pub object_map : (o m : ℕ) → map_in t o ≡ Some m → HasPlacesFor s t o m
  pub base : (m : ℕ) (g : GateWord) (k : ℕ) → gate_in t m ≡ Some g → k < g.entries → IsSomeAnd (base_in t m) (λ e. e + k < s.entries)

abbrev pub FormsAreKept : Type 0
FormsAreKept = (s : Shape) (t : Trail) → Lawful s t → FormsHold s t

-- at each position a word of the board says what the writes up to there say
abbrev pub WordsSay : Type 0
WordsSay = (s : Shape) (stores : List Access) (position : ℕ) (kind : Kind) (item : ℕ) → Lawful s (typed s stores) → IsAmong s kind item
    → Says kind (at position (typed s stores)) item (word_at (words_of s) stores position (index_of s (place_at kind item)))

-- each store is one write
abbrev pub StoresAreWrites : Type 0
StoresAreWrites = (s : Shape) (stores : List Access) → length (typed s stores) ≡ length stores

-- nothing was said of an item that wasn't handed out
abbrev pub UnusedSaysNothing : Type 0
UnusedSaysNothing = (counts : Shape) (t : Trail) (kind : Kind) (item : ℕ) → AllWithin counts t → items_of counts (region_of kind) ≤ item → SaysNothing kind t item

-- each write is to an item of the board
abbrev pub WritesAreWithin : Type 0
WritesAreWithin = (s : Shape) (t : Trail) → Lawful s t → AllWithin s t

-- an object never gets fewer slots
abbrev pub StoresGrow : Type 0
StoresGrow = (s : Shape) (old new : Trail) (o : ℕ) → GoesOn s old new → (store_in old o).capacity ≤ (store_in new o).capacity
