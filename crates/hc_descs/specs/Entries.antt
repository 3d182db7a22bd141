-- The entries of a map: its properties in order, each with a key and a field.
use Rattle.std.specs.Prelude.{◌≡◌, ◌≢◌, ℕ, ◌<◌, ◌≤◌, Option, Some, None, IsSome, IsSomeAnd}
use Rattle.hc_layout.specs.declared.words.GateWord.{GateWord}
use Rattle.hc_value.specs.declared.field.Detail.{Detail}
use Rattle.hc_value.specs.declared.key.Key.{Key}
use Rattle.hc_heap.specs.Writes.{Trail}
use Rattle.hc_heap.specs.Readings.{gate_in, base_in, entry_key_in, reference_in, detail_in}
use Rattle.hc_heap.specs.Lawful.{IsField, key_from, field_from}

-- the key of a map's k-th entry, if it was written
abbrev pub key_at : Trail → ℕ → ℕ → Option Key
key_at t m k = key_from t (base_in t m) k

-- the field of a map's k-th entry, if it was written
abbrev pub field_at : Trail → ℕ → ℕ → Option ℕ
field_at t m k = field_from t (base_in t m) k

-- what a field admits, if it is one and that was written
abbrev pub detail_of : Trail → Option ℕ → Option Detail
detail_of t (Some f) = detail_in t f
detail_of t None = None

-- what the field of a map's k-th entry admits
abbrev pub detail_at : Trail → ℕ → ℕ → Option Detail
detail_at t m k = detail_of t (field_at t m k)

-- how many entries a map has; none before its gate is written
abbrev pub entries_in : Option GateWord → ℕ
entries_in (Some g) = g.entries
entries_in None = 0

abbrev pub count_of : Trail → ℕ → ℕ
count_of t m = entries_in (gate_in t m)

-- a map is open: its gate is written
abbrev pub IsOpenMap : Trail → ℕ → Type 0
IsOpenMap t m = IsSome (gate_in t m)

-- an entry has the name
abbrev pub HasName : Trail → ℕ → ℕ → ℕ → Type 0
HasName t m k name = IsSomeAnd (key_at t m k) (λ key. key.name ≡ name)

-- an entry has another name
abbrev pub HasOtherName : Trail → ℕ → ℕ → ℕ → Type 0
HasOtherName t m k name = IsSomeAnd (key_at t m k) (λ key. key.name ≢ name)

-- none of the first n entries has the name
abbrev pub LacksName : Trail → ℕ → ℕ → ℕ → Type 0
LacksName t m n name = (k : ℕ) → k < n → HasOtherName t m k name

-- the i-th entry is the first of a map's entries with the name
pub record IsFirstNamed (t : Trail) (m name i : ℕ) : Type 0 where
  pub within : i < count_of t m
  pub here : HasName t m i name
  pub before : LacksName t m i name

-- nothing of an entry is written
pub record IsFree (t : Trail) (e : ℕ) : Type 0 where
  pub key : entry_key_in t e ≡ None
  pub field : reference_in t e ≡ None

-- nothing is written of the entries from this one on
abbrev pub AreFree : Trail → ℕ → Type 0
AreFree t first = (e : ℕ) → first ≤ e → IsFree t e

-- a map's k-th entry stands here: it is written, and its field is made
pub record IsEntryAt (t : Trail) (m k e : ℕ) : Type 0 where
  pub key : key_at t m k ≡ entry_key_in t e
  pub field : field_at t m k ≡ reference_in t e
  pub written : IsSome (entry_key_in t e)
  pub named : IsSome (reference_in t e)
  pub made : (f : ℕ) → reference_in t e ≡ Some f → IsField t f
