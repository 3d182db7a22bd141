-- What the fields of maps admit, and which writes of the tree change that.
use Rattle.std.specs.Prelude.{◌≡◌, ◌⊎◌, ℕ, ◌≤◌, Bool, false, IsTrue, Option, Some, None}
use Rattle.hc_layout.specs.declared.shape.Shape.{Shape}
use Rattle.hc_value.specs.Field.{in_place_of, join_of, joined_detail}
use Rattle.hc_value.specs.declared.field.Detail.{Detail}
use Rattle.hc_heap.specs.Writes.{Write, Trail, Gate, Parent, Prototype, Bits, Base, Array, Head, EntryKey, Reference, Owner, FieldDetail, LinkKey, LinkChild, LinkNext, Root}
use Rattle.hc_heap.specs.Readings.{bits_in, detail_in, root_in}
use Rattle.hc_descs.specs.Entries.{field_at}
pub use Rattle.hc_descs.specs.Entries.{detail_of, detail_at}

-- what a field admits, joined with another detail; where nothing was written of it, the other alone
abbrev pub joined_with : Option Detail → Detail → Detail
joined_with (Some e) d = joined_detail e d
joined_with None d = d

-- what a field admits is joined with another detail in place
abbrev pub joins_in_place : Option Detail → Option Detail → Bool
joins_in_place (Some e) (Some d) = in_place_of e.rep (join_of e.rep d.rep)
joins_in_place _ _ = false

-- what the field of a map's j-th entry admits is joined in place with what another map's does
abbrev pub fits_at : Trail → ℕ → ℕ → ℕ → Bool
fits_at t end m j = joins_in_place (detail_at t end j) (detail_at t m j)

-- what the last field of a key's child admits after it was asked to admit a detail: the join with what the live child's field
-- admitted, and where there was none the detail
abbrev pub child_detail : Trail → Option ℕ → ℕ → Detail → Detail
child_detail t (Some c) n d = joined_with (detail_at t c n) d
child_detail t None n d = d

-- Writes

-- writes of new maps, entries, fields and links, of heads and of roots that are named. Of a map that was there only bits are
-- written, and it is deprecated only where it is one of those that die; a field gets only the details that are said of it
abbrev pub Reshapes : Shape → (ℕ → Type 0) → (ℕ → Detail → Type 0) → Trail → Write → Type 0
Reshapes used Dies Gets t (Gate m g) = used.maps ≤ m
Reshapes used Dies Gets t (Parent m q) = used.maps ≤ m
Reshapes used Dies Gets t (Prototype m q) = used.maps ≤ m
Reshapes used Dies Gets t (Base m b) = used.maps ≤ m
Reshapes used Dies Gets t (Array m a) = used.maps ≤ m
Reshapes used Dies Gets t (EntryKey e key) = used.entries ≤ e
Reshapes used Dies Gets t (Reference e f) = used.entries ≤ e
Reshapes used Dies Gets t (Owner f m) = used.fields ≤ f
Reshapes used Dies Gets t (FieldDetail f d) = Gets f d
Reshapes used Dies Gets t (LinkKey l key) = used.links ≤ l
Reshapes used Dies Gets t (LinkChild l c) = used.links ≤ l
Reshapes used Dies Gets t (LinkNext l n) = used.links ≤ l
Reshapes used Dies Gets t (Bits m b) = (b.deprecated ≡ (bits_in t m).deprecated) ⊎ (Dies m × IsTrue b.deprecated)
Reshapes used Dies Gets t (Head m l) = Unit {0}
Reshapes used Dies Gets t (Root o r) = (r.is_proto ≡ (root_in t o).is_proto) × ((m : ℕ) → (root_in t o).map ≡ Some m → r.map ≡ Some m)
Reshapes used Dies Gets t _ = ⊥

-- no map dies
abbrev pub NoMap : ℕ → Type 0
NoMap m = ⊥

-- the field that gets a detail where a child of a map with n entries is to admit it: the last one of the child that is used, or
-- else the first new field
abbrev pub ChildGets : Trail → Option ℕ → ℕ → Detail → ℕ → ℕ → Detail → Type 0
ChildGets t (Some c) n d first f e = (field_at t c n ≡ Some f) × (e ≡ d)
ChildGets t None n d first f e = (f ≡ first) × (e ≡ d)

-- one field gets a detail, if there is one
abbrev pub GetsOne : ℕ → Option Detail → ℕ → Detail → Type 0
GetsOne field detail f d = (f ≡ field) × (detail ≡ Some d)

-- exactly these fields got these details, and all others have what they had
pub record DetailsAre (Gets : ℕ → Detail → Type 0) (old new : Trail) : Type 0 where
  pub gets : (f : ℕ) (d : Detail) → Gets f d → detail_in new f ≡ Some d
  pub rest : (f : ℕ) → ((d : Detail) → Gets f d → ⊥) → detail_in new f ≡ detail_in old f

-- writes of details alone
abbrev pub WritesDetails : Trail → Write → Type 0
WritesDetails t (FieldDetail f d) = Unit {0}
WritesDetails t _ = ⊥
