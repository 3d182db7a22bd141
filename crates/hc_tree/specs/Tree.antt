-- A sound tree of maps.
use Rattle.std.specs.Prelude.{◌≡◌, ◌≢◌, ℕ, ◌+◌, ◌<◌, Bool, false, IsTrue, Option, Some, None, IfSome, IsSomeAnd, List, [], ◌∷◌, All, Contains}
use Rattle.hc_layout.specs.declared.words.GateWord.{GateWord}
use Rattle.hc_value.specs.Attrs.{is_read_only}
use Rattle.hc_value.specs.declared.key.Key.{Key}
use Rattle.hc_value.specs.declared.prop.Kind.TheVariants.{AccessorProp}
use Rattle.hc_value.specs.declared.field.Rep.TheVariants.{Tagged}
use Rattle.hc_value.specs.declared.field.Constness.TheVariants.{Mutable}
use Rattle.hc_value.specs.declared.field.Class.TheVariants.{Any}
use Rattle.hc_value.specs.declared.field.Detail.{Detail}
use Rattle.hc_heap.specs.Writes.{Trail}
use Rattle.hc_heap.specs.Readings.{gate_in, parent_in, prototype_in, bits_in, owner_in, detail_in, link_key_in, link_child_in, root_in}
use Rattle.hc_descs.specs.Entries.{key_at, field_at}
use Rattle.hc_descs.specs.Copies.{HasArray, HasEntriesOf}
use Rattle.hc_links.specs.Chains.{links_in}

-- the gate of a map with so many entries, which isn't locked
abbrev pub gate_with : ℕ → Bool → GateWord
gate_with n private = record { entries = n; is_private = private; is_locked = false }

-- a map is the root of the maps that have a prototype: open, with no entry, and nobody's child
pub record IsRoot (t : Trail) (p : Option ℕ) (r : ℕ) : Type 0 where
  pub gate : gate_in t r ≡ Some (gate_with 0 false)
  pub parent : parent_in t r ≡ Some None
  pub prototype : prototype_in t r ≡ Some p

-- the names of a map's first n entries differ
abbrev pub HaveDistinctNames : Trail → ℕ → ℕ → Type 0
HaveDistinctNames t m n = (i j : ℕ) → i < j → j < n → (a b : Key) → key_at t m i ≡ Some a → key_at t m j ≡ Some b → a.name ≢ b.name

-- an accessor is never read-only
abbrev pub IsProperKey : Key → Type 0
IsProperKey key = key.kind ≡ AccessorProp → is_read_only key.attrs ≡ false

abbrev pub HaveProperKeys : Trail → ℕ → ℕ → Type 0
HaveProperKeys t m n = (k : ℕ) (key : Key) → k < n → key_at t m k ≡ Some key → IsProperKey key

-- the detail of a field that admits everything
abbrev pub tagged_field : Detail
tagged_field = record { rep = Tagged; constness = Mutable; class = Any }

-- the fields of the accessors among a map's first n entries admit everything
abbrev pub HaveTaggedAccessors : Trail → ℕ → ℕ → Type 0
HaveTaggedAccessors t m n = (k f : ℕ) (key : Key) → k < n → key_at t m k ≡ Some key → key.kind ≡ AccessorProp → field_at t m k ≡ Some f → detail_in t f ≡ Some tagged_field

-- a field stands at the same place in each open map that has it
abbrev pub HaveOnePlace : Trail → Type 0
HaveOnePlace t = (m n : ℕ) (g h : GateWord) (i j f : ℕ) → gate_in t m ≡ Some g → gate_in t n ≡ Some h → i < g.entries → j < h.entries → field_at t m i ≡ Some f → field_at t n j ≡ Some f → i ≡ j

-- a map is the child of another, whose gate is g, for a key: it has the other's prototype and entries, and
-- one entry more, whose field is its own
pub record IsChildFor (t : Trail) (m : ℕ) (g : GateWord) (c : ℕ) (key : Key) : Type 0 where
  pub younger : m < c
  pub gate : gate_in t c ≡ Some (gate_with (g.entries + 1) false)
  pub parent : parent_in t c ≡ Some (Some m)
  pub prototype : prototype_in t c ≡ prototype_in t m
  pub entries : HasEntriesOf t c m g.entries
  pub last : key_at t c g.entries ≡ Some key
  pub field : IsSomeAnd (field_at t c g.entries) (λ f. owner_in t f ≡ Some c)
  pub deprecated : IsTrue (bits_in t m).deprecated → IsTrue (bits_in t c).deprecated

-- a link of a map leads to a child for the link's key
pub record IsSoundLink (t : Trail) (m : ℕ) (g : GateWord) (l : ℕ) : Type 0 where
  pub key : Key
  pub child : ℕ
  pub is_key : link_key_in t l ≡ Some key
  pub is_child : link_child_in t l ≡ Some child
  pub sound : IsChildFor t m g child key

-- a link with this key leads to a deprecated map
abbrev pub IsDeadFor : Trail → Option Key → ℕ → Type 0
IsDeadFor t key l = link_key_in t l ≡ key → IfSome (link_child_in t l) (λ c. IsTrue (bits_in t c).deprecated)

-- of some links, the newest first, only the first with a key may lead to a map that isn't deprecated
abbrev pub HaveOneLive : Trail → List ℕ → Type 0
HaveOneLive t [] = Unit {0}
HaveOneLive t (l ∷ ls) = All (IsDeadFor t (link_key_in t l)) ls × HaveOneLive t ls

-- a link of one map leads to another
pub record IsLedTo (t : Trail) (p c : ℕ) : Type 0 where
  pub link : ℕ
  pub there : Contains (links_in t p) link
  pub leads : link_child_in t link ≡ Some c
  pub gate : GateWord
  pub is_open : gate_in t p ≡ Some gate

-- a map that isn't private and has no parent is a root
pub record IsBare (t : Trail) (m : ℕ) (g : GateWord) : Type 0 where
  pub entries : g.entries ≡ 0
  pub live : (bits_in t m).deprecated ≡ false

-- an open map is sound
pub record IsSoundMap (t : Trail) (m : ℕ) (g : GateWord) : Type 0 where
  pub distinct : HaveDistinctNames t m g.entries
  pub proper : HaveProperKeys t m g.entries
  pub tagged : HaveTaggedAccessors t m g.entries
  pub array : HasArray t m g.entries
  pub unlocked : g.is_locked ≡ false
  pub alone : IsTrue g.is_private → parent_in t m ≡ Some None
  pub unlinked : IsTrue g.is_private → links_in t m ≡ []
  pub links : All (IsSoundLink t m g) (links_in t m)
  pub live : HaveOneLive t (links_in t m)
  pub child : (p : ℕ) → parent_in t m ≡ Some (Some p) → IsLedTo t p m
  pub root : g.is_private ≡ false → parent_in t m ≡ Some None → IsBare t m g

-- the tree is sound: each open map is, what a root word names is a root, and each field has its place
pub record IsTree (t : Trail) : Type 0 where
  pub maps : (m : ℕ) (g : GateWord) → gate_in t m ≡ Some g → IsSoundMap t m g
  pub roots : (o r : ℕ) → (root_in t o).map ≡ Some r → IsRoot t (Some o) r
  pub places : HaveOnePlace t
