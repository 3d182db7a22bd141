-- What is read of an entry of an open map is the entry's.
use Rattle.std.proofs.Common.{◌≡◌, ℕ, ◌+◌, ◌<◌, ◌≤◌, Option, Some, None, IsSome, refl, sym, ap, ◌∙◌, subst, arith}
use Rattle.hc_value.specs.declared.key.Key.{Key}
use Rattle.hc_heap.specs.declared.kind.Kind.TheVariants.{KeyOfEntry}
use Rattle.hc_heap.specs.Writes.{Trail}
use Rattle.hc_heap.specs.Readings.{base_in, entry_key_in, reference_in}
use Rattle.hc_heap.specs.Kept.{UnusedSaysNothing}
use Rattle.hc_heap.specs.States.{View, IsHeap}
use Rattle.hc_slots.specs.Cases.{some-is}
use Rattle.hc_slots.specs.Entries.{EntryIs}

-- the entry was handed out
pub entry-used : UnusedSaysNothing → (v : View) (e : ℕ) (key : Key) → IsHeap v → entry_key_in v.trail e ≡ Some key → e < v.used.entries
entry-used unused v e key heap is = by e v.used.entries (λ le. let none : entry_key_in v.trail e ≡ None = unused v.used v.trail KeyOfEntry e heap.used le in let n : None ≡ Some key = sym none ∙ is in let f : ⊥ = cc in f)
  where
    by : (a b : ℕ) → (b ≤ a → ⊥) → a < b
    by a b h = omega (arith, h)

-- the base that was read is the entry's
pub base-same : (t : Trail) (m k base : ℕ) (entry : EntryIs t m k) → base_in t m ≡ Some base → entry.base ≡ base
base-same t m k base entry is = some-is entry.base base (sym entry.is_base ∙ is)

pub field-same : (t : Trail) (m k base field : ℕ) (entry : EntryIs t m k) → entry.base ≡ base → reference_in t (base + k) ≡ Some field → entry.field ≡ field
field-same t m k base field entry same is = some-is entry.field field (sym entry.is_field ∙ ap (λ (x : ℕ). reference_in t (x + k)) same ∙ is)

pub some-is_some : {T : Type 0} (o : Option T) (v : T) → o ≡ Some v → IsSome o
some-is_some o v e = subst IsSome (sym e) refl
