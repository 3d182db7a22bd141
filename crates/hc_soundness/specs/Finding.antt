-- The entry of a name in a map, and maps without one.
use Rattle.std.specs.Prelude.{◌≡◌, ℕ, ◌<◌, true, false, Some}
use Rattle.hc_layout.specs.declared.words.GateWord.{GateWord}
use Rattle.hc_value.specs.Attrs.{is_read_only, no_attributes}
use Rattle.hc_value.specs.declared.key.Key.{Key}
use Rattle.hc_value.specs.declared.prop.Kind.TheVariants.{DataProp, AccessorProp}
use Rattle.hc_heap.specs.Writes.{Trail}
use Rattle.hc_heap.specs.Readings.{gate_in}
use Rattle.hc_descs.specs.Entries.{key_at, LacksName}

-- the k-th entry of an open map, with this key, is the first that has the name
pub record Finds (t : Trail) (m name k : ℕ) (key : Key) : Type 0 where
  pub gate : GateWord
  pub is_open : gate_in t m ≡ Some gate
  pub within : k < gate.entries
  pub is_key : key_at t m k ≡ Some key
  pub named : key.name ≡ name
  pub before : LacksName t m k name

-- an open map has no entry of the name
pub record Lacks (t : Trail) (m name : ℕ) : Type 0 where
  pub gate : GateWord
  pub is_open : gate_in t m ≡ Some gate
  pub none : LacksName t m gate.entries name

-- a key is that of a data property
abbrev pub IsDatum : Key → Type 0
IsDatum key = key.kind ≡ DataProp

-- a key is that of a data property that may be written
pub record IsWritable (key : Key) : Type 0 where
  pub datum : key.kind ≡ DataProp
  pub writable : is_read_only key.attrs ≡ false

-- a key is that of a data property that may only be read
pub record IsReadOnly (key : Key) : Type 0 where
  pub datum : key.kind ≡ DataProp
  pub only_read : is_read_only key.attrs ≡ true

-- a key is that of an accessor property
abbrev pub IsAccessor : Key → Type 0
IsAccessor key = key.kind ≡ AccessorProp

-- the key of a property that a store adds: data, with no attribute set (ECMA-262, 10.1.9.2)
abbrev pub added_key : ℕ → Key
added_key name = record { name = name; kind = DataProp; attrs = no_attributes }
