-- How many items of each region a call needs, and when it finds no room.
use Rattle.std.specs.Prelude.{◌≡◌, ℕ, zero, suc, ◌+◌, ◌-◌, ◌≤◌, ◌^◌, ◌==◌, if◌then◌else◌, Result, Ok, Err}
use Rattle.hc_layout.specs.Capacity.{cap_of}
use Rattle.hc_layout.specs.declared.shape.Shape.{Shape}
use Rattle.hc_layout.specs.declared.shape.Region.TheVariants.{Maps, Entries, Fields, Links, Slots}
use Rattle.hc_heap.specs.declared.space.Space.{Space}
use Rattle.hc_heap.specs.States.{View, HasRoom}
use Rattle.hc_tree.specs.declared.need.Need.{Need}

-- nothing is needed
abbrev pub no_need : Need
no_need = record { maps = 0; entries = 0; fields = 0; links = 0; slots = 0 }

-- the array of n entries; a map without an entry has none
abbrev pub array_of : ℕ → ℕ
array_of n = if n == 0 then 0 else cap_of n

-- each region has room for what is needed
pub record HasSpace (v : View) (need : Need) : Type 0 where
  pub maps : HasRoom v Maps need.maps
  pub entries : HasRoom v Entries need.entries
  pub fields : HasRoom v Fields need.fields
  pub links : HasRoom v Links need.links
  pub slots : HasRoom v Slots need.slots

-- the counts of items after so many were handed out
abbrev pub with_need : Need → Shape → Shape
with_need need s = record s {
  maps = s.maps + need.maps;
  entries = s.entries + need.entries;
  fields = s.fields + need.fields;
  links = s.links + need.links;
  slots = s.slots + need.slots;
}

-- a call answers Space exactly where some region has no room for what it needs
abbrev pub IsSpaceExact : View → Need → Result ℕ Space → Type 0
IsSpaceExact v need (Ok m) = HasSpace v need
IsSpaceExact v need (Err e) = HasSpace v need → ⊥

-- what a call hands out: what it needs, or nothing where it answers Space
abbrev pub used_after : Result ℕ Space → Need → Shape → Shape
used_after (Ok m) need used = with_need need used
used_after (Err e) need used = used

-- what two operations need, one after the other
abbrev pub both : Need → Need → Need
both a b = record {
  maps = a.maps + b.maps;
  entries = a.entries + b.entries;
  fields = a.fields + b.fields;
  links = a.links + b.links;
  slots = a.slots + b.slots;
}

-- so few items that two such needs can be added
pub record IsFew (need : Need) : Type 0 where
  pub maps : need.maps ≤ 2 ^ 16
  pub entries : need.entries ≤ 2 ^ 16
  pub fields : need.fields ≤ 2 ^ 16
  pub links : need.links ≤ 2 ^ 16
  pub slots : need.slots ≤ 2 ^ 16

-- slots alone
abbrev pub slots_alone : ℕ → Need
slots_alone slots = record no_need { slots = slots }

-- what a private map with n entries needs to be made again with another field at one place
abbrev pub own_need : ℕ → Need
own_need n = record { maps = 1; entries = cap_of n; fields = 1; links = 0; slots = 0 }

-- the entries of new maps with one entry, two, and so on up to n
abbrev pub arrays_upto : ℕ → ℕ
arrays_upto zero = 0
arrays_upto (suc n) = arrays_upto n + cap_of (suc n)

-- a walk that makes a map for each of n properties
abbrev pub walk_need : ℕ → Need
walk_need n = record { maps = n; entries = arrays_upto n; fields = n; links = n; slots = 0 }

-- new maps for the properties of a map from one on: one for each
abbrev pub build_need : ℕ → ℕ → Need
build_need i n = record { maps = n - i; entries = arrays_upto n - arrays_upto i; fields = n - i; links = n - i; slots = 0 }

-- no item was taken back
pub record IsNoLess (old new : Shape) : Type 0 where
  pub maps : old.maps ≤ new.maps
  pub entries : old.entries ≤ new.entries
  pub fields : old.fields ≤ new.fields
  pub links : old.links ≤ new.links
  pub slots : old.slots ≤ new.slots

-- no more items were handed out than were needed, no cell was, and none was taken back
pub record IsWithin (need : Need) (old new : Shape) : Type 0 where
  pub maps : new.maps ≤ old.maps + need.maps
  pub entries : new.entries ≤ old.entries + need.entries
  pub fields : new.fields ≤ old.fields + need.fields
  pub links : new.links ≤ old.links + need.links
  pub slots : new.slots ≤ old.slots + need.slots
  pub cells : new.cells ≡ old.cells
  pub rises : IsNoLess old new
