-- Arrays of entries that are made for a new map.
use Rattle.std.specs.Prelude.{◌≡◌, ℕ, ◌+◌, ◌<◌, ◌≤◌, ◌==◌, if◌then◌else◌, true, Option, Some}
use Rattle.hc_layout.specs.Capacity.{cap_of}
use Rattle.hc_layout.specs.declared.words.ArrayWord.{ArrayWord}
use Rattle.hc_value.specs.declared.key.Key.{Key}
use Rattle.hc_heap.specs.Writes.{Write, Trail, Base, Array, EntryKey, Reference}
use Rattle.hc_heap.specs.Readings.{no_array, base_in, array_in}
use Rattle.hc_descs.specs.Entries.{IsFree, key_at, field_at}

-- the array of a map that has one of its own, of this capacity
abbrev pub own_array : ℕ → ArrayWord
own_array capacity = record { owner = true; capacity = capacity }

-- the array of a map with n entries: one of its own, with the capacity of its entries; none for no entry
abbrev pub array_for : ℕ → ArrayWord
array_for n = if n == 0 then no_array else own_array (cap_of n)

-- a map with n entries has its array, and nothing is written of the array's spare entries
pub record HasArray (t : Trail) (m n : ℕ) : Type 0 where
  pub array : array_in t m ≡ array_for n
  pub spare : (base k : ℕ) → base_in t m ≡ Some base → n ≤ k → k < (array_in t m).capacity → IsFree t (base + k)

-- writes that fill a new array, from its first entry on, and give it to a map
abbrev pub FillsArray : ℕ → ℕ → Trail → Write → Type 0
FillsArray c first t (EntryKey e key) = first ≤ e
FillsArray c first t (Reference e f) = first ≤ e
FillsArray c first t (Base m b) = m ≡ c
FillsArray c first t (Array m a) = m ≡ c
FillsArray c first t _ = ⊥

-- the first n entries of a map are those of another
pub record HasEntriesOf (t : Trail) (c m n : ℕ) : Type 0 where
  pub keys : (k : ℕ) → k < n → key_at t c k ≡ key_at t m k
  pub fields : (k : ℕ) → k < n → field_at t c k ≡ field_at t m k

-- the first n entries of a map have the keys of another, and fields that follow one another
pub record HasKeysOf (t : Trail) (c m n field : ℕ) : Type 0 where
  pub keys : (k : ℕ) → k < n → key_at t c k ≡ key_at t m k
  pub fields : (k : ℕ) → k < n → field_at t c k ≡ Some (field + k)

-- the field of a map's k-th entry, but for another one at a place
abbrev pub field_but : Trail → ℕ → ℕ → ℕ → ℕ → Option ℕ
field_but t m place field k = if k == place then Some field else field_at t m k

-- the first n entries of a map are those of another, but for the field at a place
pub record HasEntriesBut (t : Trail) (c m n place field : ℕ) : Type 0 where
  pub keys : (k : ℕ) → k < n → key_at t c k ≡ key_at t m k
  pub fields : (k : ℕ) → k < n → field_at t c k ≡ field_but t m place field k

-- the n-th entry of a map
pub record IsEntry (t : Trail) (c n : ℕ) (its_key : Key) (its_field : ℕ) : Type 0 where
  pub key : key_at t c n ≡ Some its_key
  pub field : field_at t c n ≡ Some its_field

-- a map has an array of its own, with room for n entries, from this entry on
pub record HasOwnArray (t : Trail) (c n first : ℕ) : Type 0 where
  pub base : base_in t c ≡ Some first
  pub array : array_in t c ≡ own_array (cap_of n)
