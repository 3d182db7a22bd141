-- What is there to read of an entry of an open map.
use Rattle.std.proofs.Common.{◌≡◌, ℕ, ◌+◌, ◌<◌, Option, Some, None, IsSome, refl}
use Rattle.std.specs.Prelude.{IsSomeAnd}
use Rattle.hc_layout.specs.declared.words.GateWord.{GateWord}
use Rattle.hc_value.specs.declared.field.Detail.{Detail}
use Rattle.hc_value.specs.declared.key.Key.{Key}
use Rattle.hc_heap.specs.Writes.{Trail}
use Rattle.hc_heap.specs.Readings.{gate_in, base_in, entry_key_in, reference_in, detail_in}
use Rattle.hc_heap.specs.Lawful.{IsField, key_from, field_from}
use Rattle.hc_heap.specs.Kept.{GatesAreOpen}
use Rattle.hc_heap.specs.States.{View, IsHeap}
use Rattle.hc_slots.specs.Cases.{some-of}

-- all that is read of an entry
pub record EntryIs (t : Trail) (m k : ℕ) : Type 0 where
  pub base : ℕ
  pub is_base : base_in t m ≡ Some base
  pub key : Key
  pub is_key : entry_key_in t (base + k) ≡ Some key
  pub field : ℕ
  pub is_field : reference_in t (base + k) ≡ Some field
  pub detail : Detail
  pub admits : detail_in t field ≡ Some detail

entry-by : (t : Trail) (m k : ℕ) (base : Option ℕ) → base_in t m ≡ base → IsSome (key_from t base k) → IsSomeAnd (field_from t base k) (λ f. IsField t f) → EntryIs t m k
entry-by t m k None is key field = let n : ⊥ = cc in absurd n
entry-by t m k (Some e) is key field = by (reference_in t (e + k)) refl field
  where
    by : (f : Option ℕ) → reference_in t (e + k) ≡ f → IsSomeAnd f (λ x. IsField t x) → EntryIs t m k
    by (Some f) r made =
        let a = some-of (entry_key_in t (e + k)) key in
        let d = some-of (detail_in t f) made.detail in
        record { base = e; is_base = is; key = a.0; is_key = a.1; field = f; is_field = r; detail = d.0; admits = d.1 }
    by None r made = absurd made

pub entry-is : GatesAreOpen → (v : View) (m k : ℕ) → IsHeap v → IsSomeAnd (gate_in v.trail m) (λ g. k < g.entries) → EntryIs v.trail m k
entry-is gates v m k heap there = by (gate_in v.trail m) refl there
  where
    by : (g : Option GateWord) → gate_in v.trail m ≡ g → IsSomeAnd g (λ x. k < x.entries) → EntryIs v.trail m k
    by (Some g) is lt = let whole = gates v.shape v.trail m g heap.lawful is in entry-by v.trail m k (base_in v.trail m) refl (whole.entries.keys k lt) (whole.entries.fields k lt)
    by None is lt = absurd lt
