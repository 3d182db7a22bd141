-- Private copies: what they need, and what they are made of.
use Rattle.std.specs.Prelude.{◌≡◌, ℕ, ◌+◌, ◌<◌, ◌≤◌, Bool, true, false, if◌then◌else◌, Option, Some, None, IsSome, IsSomeAnd, [], ◌∷◌, ⊤}
use Rattle.hc_layout.specs.Capacity.{cap_of}
use Rattle.hc_layout.specs.declared.shape.Shape.{Shape}
use Rattle.hc_value.specs.declared.key.Key.{Key}
use Rattle.hc_value.specs.Field.{IsClassInRange}
use Rattle.hc_value.specs.declared.field.Detail.{Detail}
use Rattle.hc_value.specs.declared.prop.Kind.TheVariants.{AccessorProp}
use Rattle.hc_heap.specs.Writes.{Write, Trail, Parent, Prototype, Base, Array, EntryKey, Reference, Owner, FieldDetail}
use Rattle.hc_heap.specs.Readings.{no_bits, gate_in, parent_in, prototype_in, bits_in, owner_in, detail_in}
use Rattle.hc_heap.specs.Lawful.{IsKey, IsField, IsClassThere}
use Rattle.hc_tree.specs.declared.need.Need.{Need}
use Rattle.hc_descs.specs.Entries.{key_at, field_at, count_of, LacksName}
pub use Rattle.hc_fields.specs.Fields.{with_field}
pub use Rattle.hc_tree.specs.Details.{detail_of, detail_at}
use Rattle.hc_descs.specs.Copies.{HasEntriesBut, HasEntriesOf, HasKeysOf}
use Rattle.hc_links.specs.Chains.{links_in}
use Rattle.hc_tree.specs.Tree.{gate_with, tagged_field, HaveDistinctNames, HaveProperKeys, HaveTaggedAccessors, IsProperKey}
use Rattle.hc_tree.specs.Needs.{array_of}
use Rattle.hc_tree.specs.Growth.{EndsWith}
use Rattle.hc_tree.specs.Walking.{GetsSame}

-- New fields

-- a field was made for a map, and admits what the field of another map's k-th entry admits
pub record IsLikeField (t : Trail) (c m k f : ℕ) : Type 0 where
  pub owner : owner_in t f ≡ Some c
  pub detail : detail_in t f ≡ detail_at t m k

-- writes that make fields, from a first one on
abbrev pub MakesFields : ℕ → Trail → Write → Type 0
MakesFields first t (Owner f m) = first ≤ f
MakesFields first t (FieldDetail f d) = first ≤ f
MakesFields first t _ = ⊥

-- Private copies

-- an entry beyond those of a map: its key, and what its field admits
abbrev pub Extra : Type 0
Extra = Key × Detail

-- the entry that a private copy has beyond those of its map, if it has one
abbrev pub More : Type 0
More = Option Extra

-- an entry with this key and detail may come after those of a map
pub record MayBeLast (s : Shape) (t : Trail) (m : ℕ) (key : Key) (detail : Detail) : Type 0 where
  pub form : IsKey key
  pub proper : IsProperKey key
  pub lacks : LacksName t m (count_of t m) key.name
  pub accessor : key.kind ≡ AccessorProp → detail ≡ tagged_field
  pub class : IsClassInRange detail.class
  pub there : IsClassThere s t detail.class

-- how many entries a private copy of a map with n entries has
abbrev pub copied_count : More → ℕ → ℕ
copied_count None n = n
copied_count (Some e) n = n + 1

-- how many entries its array has
abbrev pub copied_array : More → ℕ → ℕ
copied_array None n = array_of n
copied_array (Some e) n = cap_of (n + 1)

-- how many fields are made for it
abbrev pub copied_fields : Bool → More → ℕ → ℕ
copied_fields fresh None n = if fresh then n else 0
copied_fields fresh (Some e) n = 1

-- what a private copy needs: a map, an array, and its new fields
abbrev pub copy_need : Bool → More → ℕ → Need
copy_need fresh more n = record { maps = 1; entries = copied_array more n; fields = copied_fields fresh more n; links = 0; slots = 0 }

-- the first n entries of a map have the keys of another, and new fields of equal details, one after another
pub record HasNewFields (t : Trail) (c m n first : ℕ) : Type 0 where
  pub entries : HasKeysOf t c m n first
  pub made : (k : ℕ) → k < n → IsLikeField t c m k (first + k)

-- the entries of a map in its private copy: with new fields, or with the map's own
abbrev pub HasCopied : Bool → Trail → ℕ → ℕ → ℕ → ℕ → Type 0
HasCopied true t c m n first = HasNewFields t c m n first
HasCopied false t c m n first = HasEntriesOf t c m n

-- the last entry of a private copy, where it has one of its own
abbrev pub HasMore : More → Trail → ℕ → ℕ → Type 0
HasMore None t c n = ⊤
HasMore (Some e) t c n = EndsWith t c n e.0 e.1

-- a map is a private copy of a map with n entries, new fields being those from a first one on
pub record IsPrivateCopy (fresh : Bool) (more : More) (p : Option ℕ) (t : Trail) (c m n first : ℕ) : Type 0 where
  pub gate : gate_in t c ≡ Some (gate_with (copied_count more n) true)
  pub parent : parent_in t c ≡ Some None
  pub prototype : prototype_in t c ≡ Some p
  pub entries : HasCopied fresh t c m n first
  pub last : HasMore more t c n

-- what new fields get, from a first one on, in a private copy of a map with n entries: each of new fields what the map's own
-- admits, and the field of an entry more its detail
abbrev pub CopyGets : Bool → More → Trail → ℕ → ℕ → ℕ → ℕ → Detail → Type 0
CopyGets fresh None t m n first f d = GetsSame t m 0 (copied_fields fresh None n) first f d
CopyGets fresh (Some e) t m n first f d = (f ≡ first) × (d ≡ e.1)

-- How a private copy is made

-- the trail after a map got its prototype, and that it is nobody's child
abbrev pub with_closed : Trail → Option ℕ → ℕ → Trail
with_closed t p c = Prototype c p ∷ Parent c None ∷ t

-- a map that isn't open yet, and is nobody's child
pub record IsClosed (t : Trail) (c : ℕ) : Type 0 where
  pub gate : gate_in t c ≡ None
  pub links : links_in t c ≡ []
  pub parent : parent_in t c ≡ Some None
  pub prototype : IsSome (prototype_in t c)

-- the first n entries of a map are written, and are as a sound map has them
pub record IsWhole (t : Trail) (m n : ℕ) : Type 0 where
  pub keys : (k : ℕ) → k < n → IsSome (key_at t m k)
  pub fields : (k : ℕ) → k < n → IsSomeAnd (field_at t m k) (λ f. IsField t f)
  pub distinct : HaveDistinctNames t m n
  pub proper : HaveProperKeys t m n
  pub tagged : HaveTaggedAccessors t m n

-- writes that fill a new map, with entries and fields from first ones on
abbrev pub FillsCopy : ℕ → ℕ → ℕ → Trail → Write → Type 0
FillsCopy c entry field t (EntryKey e key) = entry ≤ e
FillsCopy c entry field t (Reference e f) = entry ≤ e
FillsCopy c entry field t (Base m b) = m ≡ c
FillsCopy c entry field t (Array m a) = m ≡ c
FillsCopy c entry field t (Owner f m) = field ≤ f
FillsCopy c entry field t (FieldDetail f d) = field ≤ f
FillsCopy c entry field t _ = ⊥

-- the counts after a map was filled
abbrev pub filled_used : Bool → More → ℕ → Shape → Shape
filled_used fresh more n used = record used { entries = used.entries + copied_array more n; fields = used.fields + copied_fields fresh more n }

-- Private maps of which one entry gets another field

-- a private map has the prototype and the n entries of another one, but for a field of its own at one place
pub record IsExchanged (t : Trail) (c m n place field : ℕ) : Type 0 where
  pub gate : gate_in t c ≡ Some (gate_with n true)
  pub parent : parent_in t c ≡ Some None
  pub prototype : prototype_in t c ≡ prototype_in t m
  pub entries : HasEntriesBut t c m n place field
  pub owner : owner_in t field ≡ Some c
  pub bits : bits_in t c ≡ no_bits

-- writes that fill a new map, with entries from a first one on and one new field of a detail
abbrev pub FillsOne : ℕ → ℕ → ℕ → Detail → Trail → Write → Type 0
FillsOne c entry field detail t (EntryKey e key) = entry ≤ e
FillsOne c entry field detail t (Reference e f) = entry ≤ e
FillsOne c entry field detail t (Base m b) = m ≡ c
FillsOne c entry field detail t (Array m a) = m ≡ c
FillsOne c entry field detail t (Owner f m) = f ≡ field
FillsOne c entry field detail t (FieldDetail f d) = (f ≡ field) × (d ≡ detail)
FillsOne c entry field detail t _ = ⊥
