-- Maps in the place of others: the live ones that a walk comes to, and the new ones that are made.
use Rattle.std.specs.Prelude.{◌≡◌, ◌≢◌, ℕ, zero, suc, ◌+◌, ◌<◌, ◌≤◌, ◌==◌, nat_lt, if◌then◌else◌, false, IsTrue, Option, Some, None, IfSome, IsSomeAnd, []}
use Rattle.hc_layout.specs.declared.shape.Shape.{Shape}
use Rattle.hc_value.specs.Field.{IsClassInRange, joined_detail}
use Rattle.hc_value.specs.declared.prop.Kind.TheVariants.{AccessorProp}
use Rattle.hc_value.specs.declared.field.Detail.{Detail}
use Rattle.hc_value.specs.declared.key.Key.{Key}
use Rattle.hc_links.specs.Chains.{links_in}
use Rattle.hc_tree.specs.Details.{NoMap, Reshapes, WritesDetails, detail_at}
use Rattle.hc_layout.specs.declared.words.GateWord.{GateWord}
use Rattle.hc_heap.specs.Writes.{Write, Trail, Bits, ObjectMap, Root, Store, Slot}
use Rattle.hc_heap.specs.Readings.{gate_in, parent_in, prototype_in, bits_in, owner_in, detail_in, root_in}
use Rattle.hc_heap.specs.Kept.{Adds}
use Rattle.hc_heap.specs.Lawful.{IsClassThere, Lawful}
use Rattle.hc_heap.specs.States.{View, IsHeap}
use Rattle.hc_descs.specs.Entries.{count_of, key_at, field_at}
use Rattle.hc_tree.specs.declared.need.Need.{Need}
use Rattle.hc_tree.specs.declared.retarget.Wanted.{Wanted}
use Rattle.hc_tree.specs.declared.retarget.Wanted.TheVariants.{With, Joined}
use Rattle.hc_tree.specs.Growth.{live_child, root_of, root_need, with_named_root}
use Rattle.hc_tree.specs.Needs.{arrays_upto, both, walk_need}
use Rattle.hc_tree.specs.Tree.{IsRoot, IsTree, gate_with, tagged_field}

-- a shared map that is nobody's child is the root that its prototype names; the root of null is one
pub record AreRoots (t : Trail) (of_null : Option ℕ) : Type 0 where
  pub null : IfSome of_null (λ r. IsRoot t None r)
  pub named : (m : ℕ) (g : GateWord) (p : Option ℕ) → gate_in t m ≡ Some g → g.is_private ≡ false → parent_in t m ≡ Some None → prototype_in t m ≡ Some p → root_of t p of_null ≡ Some m

-- above each shared map stands the root that its prototype names
abbrev pub RootsStand : Type 0
RootsStand = (s : Shape) (t : Trail) (of_null : Option ℕ) (m n : ℕ) (p : Option ℕ) → Lawful s t → IsTree t → AreRoots t of_null → gate_in t m ≡ Some (gate_with n false) → prototype_in t m ≡ Some p → (r : ℕ) × ((root_of t p of_null ≡ Some r) × IsRoot t p r)

-- each map that was opened is private, or the child of another
abbrev pub OpensNoRoot : Trail → Trail → Type 0
OpensNoRoot old new = (m : ℕ) (g : GateWord) → gate_in old m ≡ None → gate_in new m ≡ Some g → g.is_private ≡ false → parent_in new m ≡ Some None → ⊥

-- writes of the tree alone: they deprecate no map, and what they touch of an object is the root that it names, where it
-- names none
abbrev pub GrowsTree : Trail → Write → Type 0
GrowsTree t (ObjectMap p h) = ⊥
GrowsTree t (Store p w) = ⊥
GrowsTree t (Slot s w) = ⊥
GrowsTree t (Root p r) = (r.is_proto ≡ (root_in t p).is_proto) × ((m : ℕ) → (root_in t p).map ≡ Some m → r.map ≡ Some m)
GrowsTree t (Bits m b) = b.deprecated ≡ (bits_in t m).deprecated
GrowsTree t _ = Unit {0}

-- Walks along live children

-- the map that a written parent names
abbrev pub parent_of : Option (Option ℕ) → Option ℕ
parent_of None = None
parent_of (Some p) = p

-- the map above a map, if it is somebody's child
abbrev pub above : Trail → Option ℕ → Option ℕ
above t None = None
above t (Some c) = parent_of (parent_in t c)

-- the map so many steps above a map
abbrev pub ancestor : Trail → ℕ → ℕ → Option ℕ
ancestor t zero c = Some c
ancestor t (suc d) c = above t (ancestor t d c)

-- a live map with so many entries stands under a root, and has the first keys of a map
pub record IsOnPath (t : Trail) (root m at count : ℕ) : Type 0 where
  pub gate : gate_in t at ≡ Some (gate_with count false)
  pub live : (bits_in t at).deprecated ≡ false
  pub prototype : prototype_in t at ≡ prototype_in t root
  pub keys : (k : ℕ) → k < count → key_at t at k ≡ key_at t m k
  pub high : ancestor t count at ≡ Some root

-- a walk from a root along live children, by the n keys of a map, comes to this map, and no further
pub record IsLiveEnd (t : Trail) (root m n end count : ℕ) : Type 0 where
  pub path : IsOnPath t root m end count
  pub within : count ≤ n
  pub ends : (key : Key) → count < n → key_at t m count ≡ Some key → live_child t end key ≡ None

-- the join of what two fields admit
abbrev pub both_details : Option Detail → Option Detail → Option Detail
both_details (Some d) (Some e) = Some (joined_detail d e)
both_details _ _ = None

-- what the fields of two maps' entries admit, joined
abbrev pub joined_at : Trail → ℕ → ℕ → ℕ → Option Detail
joined_at t end m k = both_details (detail_at t end k) (detail_at t m k)

-- a field of the map at the end gets the join with what the other map's field admits
pub record GetsJoin (t : Trail) (end m count f : ℕ) (d : Detail) : Type 0 where
  pub place : ℕ
  pub within : place < count
  pub field : field_at t end place ≡ Some f
  pub joined : joined_at t end m place ≡ Some d

-- New maps, and what their fields are to admit

-- what is to be admitted by the field of a new map's j-th entry, where the first new entry is this one
abbrev pub wanted_at : Trail → ℕ → ℕ → Wanted → ℕ → Option Detail
wanted_at t m first (With d) j = if j == first then both_details (detail_at t m j) (Some d) else detail_at t m j
wanted_at t m first (Joined end count) j = if nat_lt j count then joined_at t end m j else detail_at t m j

-- a detail that fields can be asked to admit
pub record IsDetail (s : Shape) (t : Trail) (d : Detail) : Type 0 where
  pub form : IsClassInRange d.class
  pub there : IsClassThere s t d.class

-- a detail may be that of a new field for a map's k-th entry
pub record MayAdmit (s : Shape) (t : Trail) (m k : ℕ) (d : Detail) : Type 0 where
  pub accessor : (key : Key) → key_at t m k ≡ Some key → key.kind ≡ AccessorProp → d ≡ tagged_field
  pub is : IsDetail s t d

-- the first entries of a map are there, and have the keys of another
pub record HasFirstKeys (t : Trail) (end m count : ℕ) : Type 0 where
  pub within : count ≤ count_of t m
  pub is_open : IsSomeAnd (gate_in t end) (λ g. count ≤ g.entries)
  pub keys : (j : ℕ) → j < count → key_at t end j ≡ key_at t m j

-- what is wanted for a map's entries can be admitted
abbrev pub MayBeWanted : Shape → Trail → ℕ → ℕ → Wanted → Type 0
MayBeWanted s t m first (With d) = IsDetail s t d
MayBeWanted s t m first (Joined end count) = HasFirstKeys t end m count

-- a new field gets what is wanted at its place, of the places from one on
pub record GetsWanted (wanted : ℕ → Option Detail) (count n first f : ℕ) (d : Detail) : Type 0 where
  pub place : ℕ
  pub from : count ≤ place
  pub within : place < n
  pub field : f + count ≡ first + place
  pub same : wanted place ≡ Some d

-- a new field gets what the other map's field admits
abbrev pub GetsSame : Trail → ℕ → ℕ → ℕ → ℕ → ℕ → Detail → Type 0
GetsSame t m count n first f d = GetsWanted (detail_at t m) count n first f d

-- a map that became unstable has a link
abbrev pub AreLinked : Trail → Trail → Type 0
AreLinked old new = (x : ℕ) → (bits_in old x).unstable ≡ false → IsTrue (bits_in new x).unstable → links_in new x ≢ []

-- of the first fields of a map, up to a place, k were joined with those of another map
pub record AreJoined (old new : View) (end m stop count n k : ℕ) : Type 0 where
  pub view : new ≡ record old { trail = new.trail }
  pub writes : Adds (Reshapes old.used NoMap (GetsJoin old.trail end m stop)) old.trail new.trail
  pub only : Adds WritesDetails old.trail new.trail
  pub lives : (x : ℕ) (key : Key) → live_child new.trail x key ≡ live_child old.trail x key
  pub joined : (j : ℕ) → j < k → detail_at new.trail end j ≡ joined_at old.trail end m j
  pub rest : (j : ℕ) → k ≤ j → j < count → detail_at new.trail end j ≡ detail_at old.trail end j
  pub others : (j : ℕ) → k ≤ j → j < n → detail_at new.trail m j ≡ detail_at old.trail m j
  pub tree : IsTree new.trail
  pub heap : IsHeap new

-- the field of a map's k-th entry was made for a map from this one on
abbrev pub IsOwnedFrom : Trail → ℕ → ℕ → ℕ → Type 0
IsOwnedFrom t c k first = IsSomeAnd (field_at t c k) (λ f. IsSomeAnd (owner_in t f) (λ a. first ≤ a))

-- maps were made under a map with so many entries, the last of which has i; their fields are new, and admit what was wanted
pub record IsBuilt (wanted : ℕ → Option Detail) (old new : View) (base m c count n i : ℕ) : Type 0 where
  pub writes : Adds (Reshapes old.used NoMap (GetsWanted wanted count i old.used.fields)) old.trail new.trail
  pub opens : OpensNoRoot old.trail new.trail
  pub linked : AreLinked old.trail new.trail
  pub maps : new.used.maps + count ≡ old.used.maps + i
  pub entries : new.used.entries + arrays_upto count ≡ old.used.entries + arrays_upto i
  pub fields : new.used.fields + count ≡ old.used.fields + i
  pub links : new.used.links + count ≡ old.used.links + i
  pub objects : new.used.objects ≡ old.used.objects
  pub slots : new.used.slots ≡ old.used.slots
  pub cells : new.used.cells ≡ old.used.cells
  pub shape : new.shape ≡ old.shape
  pub gate : gate_in new.trail c ≡ Some (gate_with i false)
  pub live : (bits_in new.trail c).deprecated ≡ false
  pub prototype : prototype_in new.trail c ≡ prototype_in old.trail base
  pub keys : (k : ℕ) → k < i → key_at new.trail c k ≡ key_at new.trail m k
  pub shared : (k : ℕ) → k < count → field_at new.trail c k ≡ field_at old.trail base k
  pub made : (k : ℕ) → count ≤ k → k < i → detail_at new.trail c k ≡ wanted k
  pub owned : (k : ℕ) → count ≤ k → k < i → IsOwnedFrom new.trail c k old.used.maps
  pub kept : (f : ℕ) → f < old.used.fields → detail_in new.trail f ≡ detail_in old.trail f
  pub gets : (f : ℕ) (d : Detail) → GetsWanted wanted count i old.used.fields f d → detail_in new.trail f ≡ Some d
  pub ends : (key : Key) → i < n → key_at new.trail m i ≡ Some key → live_child new.trail c key ≡ None
  pub tree : IsTree new.trail
  pub heap : IsHeap new

-- a shared map has this prototype, and as many entries as another map, with the same keys
pub record IsLike (t : Trail) (c m n : ℕ) (proto : Option ℕ) : Type 0 where
  pub gate : gate_in t c ≡ Some (gate_with n false)
  pub prototype : prototype_in t c ≡ Some proto
  pub keys : (k : ℕ) → k < n → key_at t c k ≡ key_at t m k

-- what a shared map with n entries needs, to be found with another prototype
abbrev pub shared_need : Trail → ℕ → Option ℕ → Option ℕ → Need
shared_need t n proto of_null = both (walk_need n) (root_need (root_of t proto of_null))

-- the trail after the root of a prototype was made, where there was none
abbrev pub with_root_for : Option ℕ → Trail → Option ℕ → ℕ → Trail
with_root_for (Some r) t proto root = t
with_root_for None t proto root = with_named_root t proto root
