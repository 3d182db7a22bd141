-- What each call makes of the tree.
use Rattle.std.specs.Prelude.{◌≡◌, ℕ, ◌+◌, ◌<◌, ◌≤◌, true, false, IsTrue, if◌then◌else◌, Option, Some, None, IfSome, IsSome, IsSomeAnd, [], All, Result, Ok, Err, ⊤, ◌∷◌}
use Rattle.hc_layout.specs.Capacity.{cap_of}
use Rattle.hc_layout.specs.declared.capacity.TheConstants.{MAX_FAST}
use Rattle.hc_layout.specs.declared.shape.Shape.{Shape}
use Rattle.hc_layout.specs.declared.words.GateWord.{GateWord}
use Rattle.hc_value.specs.declared.key.Key.{Key}
use Rattle.hc_value.specs.declared.field.Detail.{Detail}
use Rattle.hc_heap.specs.Writes.{Write, Trail, Gate, Parent, Prototype, Bits, Base, Array, Head, EntryKey, Reference, Owner, FieldDetail, LinkKey, LinkChild, LinkNext, Root}
use Rattle.hc_heap.specs.Readings.{gate_in, parent_in, prototype_in, bits_in, owner_in, detail_in, root_in}
use Rattle.hc_heap.specs.declared.space.Space.{Space}
use Rattle.hc_heap.specs.States.{HeapState}
use Rattle.hc_tree.specs.declared.need.Need.{Need}
use Rattle.hc_descs.specs.Entries.{count_of, key_at, field_at}
use Rattle.hc_descs.specs.Copies.{HasArray, HasEntriesOf}
use Rattle.hc_links.specs.Chains.{child_of, links_in}
use Rattle.hc_tree.specs.Tree.{gate_with, HaveDistinctNames, HaveProperKeys, HaveTaggedAccessors, IsDeadFor}
use Rattle.hc_tree.specs.Details.{ChildGets, child_detail, detail_at, joins_in_place}
use Rattle.hc_tree.specs.Needs.{no_need}

-- Unstable maps

-- the trail after a map was made unstable, where it wasn't
abbrev pub marked : Trail → ℕ → Trail
marked t m = if (bits_in t m).unstable then t else Bits m (record { unstable = true; deprecated = (bits_in t m).deprecated }) ∷ t

-- Roots

-- the root that a prototype, or null, has
abbrev pub root_of : Trail → Option ℕ → Option ℕ → Option ℕ
root_of t (Some o) of_null = (root_in t o).map
root_of t None of_null = of_null

-- an object may be the prototype of a map: it is there, and was made a prototype
abbrev pub MayBePrototype : Shape → Trail → Option ℕ → Type 0
MayBePrototype used t p = IfSome p (λ o. (o < used.objects) × IsTrue (root_in t o).is_proto)

-- a new root needs a map
abbrev pub root_need : Option ℕ → Need
root_need (Some r) = no_need
root_need None = record { maps = 1; entries = 0; fields = 0; links = 0; slots = 0 }

-- the trail after a root was made
abbrev pub with_root : Trail → Option ℕ → ℕ → Trail
with_root t p r = Gate r (gate_with 0 false) ∷ Prototype r p ∷ Parent r None ∷ t

-- the trail after a prototype got a root that was made
abbrev pub with_named_root : Trail → Option ℕ → ℕ → Trail
with_named_root t (Some o) r = Root o (record { is_proto = (root_in t o).is_proto; map = Some r }) ∷ with_root t (Some o) r
with_named_root t None r = with_root t None r

-- the root of null after a root was made
abbrev pub of_null_after : Option ℕ → Option ℕ → ℕ → Option ℕ
of_null_after (Some o) of_null r = of_null
of_null_after None of_null r = Some r

-- Children

-- a map may get a child: it has room for one property more, and takes links
pub record MayGrow (g : GateWord) : Type 0 where
  pub few : g.entries < MAX_FAST
  pub shared : g.is_private ≡ false
  pub unlocked : g.is_locked ≡ false

-- a map that isn't deprecated
abbrev pub live_of : Trail → Option ℕ → Option ℕ
live_of t None = None
live_of t (Some c) = if (bits_in t c).deprecated then None else Some c

-- the live child of a map for a key: its newest one, unless that is deprecated
abbrev pub live_child : Trail → ℕ → Key → Option ℕ
live_child t m key = live_of t (child_of t m key)

-- a child of a map with n entries, where its last field joins with a detail in place
abbrev pub fit_of : Trail → Option ℕ → ℕ → Detail → Option ℕ
fit_of t None n d = None
fit_of t (Some c) n d = if joins_in_place (detail_at t c n) (Some d) then Some c else None

-- the live child of a map for a key, where its last field joins with a detail in place
abbrev pub fitting_child : Trail → ℕ → Key → Detail → Option ℕ
fitting_child t m key d = fit_of t (live_child t m key) (count_of t m) d

-- what the last field of a map's child for a key admits after it was asked to admit a detail
abbrev pub asked_detail : Trail → ℕ → Key → Detail → Detail
asked_detail t m key d = child_detail t (live_child t m key) (count_of t m) d

-- the field that gets that: of the child that fits, or else the first new one
abbrev pub AskGets : Trail → ℕ → Key → Detail → ℕ → ℕ → Detail → Type 0
AskGets t m key d first f e = ChildGets t (fitting_child t m key d) (count_of t m) (asked_detail t m key d) first f e

-- a new child of a map with n entries needs a map, an array, a field and a link
abbrev pub child_need : Option ℕ → ℕ → Need
child_need (Some c) n = no_need
child_need None n = record { maps = 1; entries = cap_of (n + 1); fields = 1; links = 1; slots = 0 }

-- a map's last entry has this key, and a field of this detail
pub record EndsWith (t : Trail) (c n : ℕ) (key : Key) (detail : Detail) : Type 0 where
  pub last : key_at t c n ≡ Some key
  pub field : IsSomeAnd (field_at t c n) (λ f. (owner_in t f ≡ Some c) × (detail_in t f ≡ Some detail))

-- Maps that are ready to be opened

-- a map's first n fields stand at their places, among its own and those of the open maps
pub record IsPlaced (t : Trail) (c n : ℕ) : Type 0 where
  pub own : (i j f : ℕ) → i < n → j < n → field_at t c i ≡ Some f → field_at t c j ≡ Some f → i ≡ j
  pub others : (x : ℕ) (g : GateWord) (i j f : ℕ) → gate_in t x ≡ Some g → i < n → j < g.entries → field_at t c i ≡ Some f → field_at t x j ≡ Some f → i ≡ j

-- what the entries of a map keep to, before it is opened
pub record IsReady (t : Trail) (c n : ℕ) : Type 0 where
  pub unwritten : gate_in t c ≡ None
  pub unlinked : links_in t c ≡ []
  pub distinct : HaveDistinctNames t c n
  pub proper : HaveProperKeys t c n
  pub tagged : HaveTaggedAccessors t c n
  pub placed : IsPlaced t c n
  pub array : HasArray t c n

-- a map that is ready to be opened as the child of another
pub record IsReadyChild (t : Trail) (m c n f : ℕ) (key : Key) : Type 0 where
  pub ready : IsReady t c (n + 1)
  pub is_open : gate_in t m ≡ Some (gate_with n false)
  pub younger : m < c
  pub parent : parent_in t c ≡ Some (Some m)
  pub prototype : prototype_in t c ≡ prototype_in t m
  pub entries : HasEntriesOf t c m n
  pub last : key_at t c n ≡ Some key
  pub field : field_at t c n ≡ Some f
  pub owner : owner_in t f ≡ Some c
  pub described : IsSome (detail_in t f)
  pub live : (bits_in t m).deprecated ≡ false
  pub young : (bits_in t c).deprecated ≡ false
  pub dead : All (IsDeadFor t (Some key)) (links_in t m)

-- writes that make a new map, and link it to its parent if it has one
abbrev pub MakesMap : Shape → Option ℕ → Trail → Write → Type 0
MakesMap used p t (Gate m g) = used.maps ≤ m
MakesMap used p t (Parent m q) = used.maps ≤ m
MakesMap used p t (Prototype m q) = used.maps ≤ m
MakesMap used p t (Base m b) = used.maps ≤ m
MakesMap used p t (Array m a) = used.maps ≤ m
MakesMap used p t (EntryKey e key) = used.entries ≤ e
MakesMap used p t (Reference e f) = used.entries ≤ e
MakesMap used p t (Owner f m) = used.fields ≤ f
MakesMap used p t (FieldDetail f d) = used.fields ≤ f
MakesMap used p t (LinkKey l key) = used.links ≤ l
MakesMap used p t (LinkChild l c) = used.links ≤ l
MakesMap used p t (LinkNext l n) = used.links ≤ l
MakesMap used p t (Bits m b) = (p ≡ Some m) × (b.deprecated ≡ (bits_in t m).deprecated)
MakesMap used p t (Head m l) = p ≡ Some m
MakesMap used p t _ = ⊥

-- What a call leaves as it was

-- the heap is as it was, but for loads
abbrev pub IsUnmoved : {P : Type 0} → HeapState P → HeapState P → Type 0
IsUnmoved a b = b ≡ record a { desk = record a.desk { loads = b.desk.loads } }

-- a root was there, or there was no room for one: nothing is stored
abbrev pub IsStill : Option ℕ → Result ℕ Space → Type 0
IsStill (Some m) result = ⊤
IsStill None (Err e) = ⊤
IsStill None (Ok m) = ⊥
