-- The kind of the property that stands at a place of a fast object.
use Rattle.std.proofs.Common.{◌≡◌, ℕ, zero, suc, ◌<◌, Option, Some, None, refl, sym, ap, ◌∙◌, arith}
use Rattle.hc_value.specs.Prop.{kind_of}
use Rattle.hc_value.specs.Word.{untagged_of, unwide_of, unpair_of, integer_of}
use Rattle.hc_value.specs.declared.value.Value.{Value}
use Rattle.hc_value.specs.declared.field.Rep.{Rep}
use Rattle.hc_value.specs.declared.field.Rep.TheVariants.{Smi, Wide, HeapObject, Tagged}
use Rattle.hc_value.specs.declared.field.Detail.{Detail}
use Rattle.hc_value.specs.declared.key.Key.{Key}
use Rattle.hc_value.specs.declared.prop.Kind.{Kind}
use Rattle.hc_value.specs.declared.prop.Kind.TheVariants.{DataProp, AccessorProp}
use Rattle.hc_value.specs.declared.prop.Prop.{Prop}
use Rattle.hc_heap.specs.Writes.{Trail}
use Rattle.hc_descs.specs.Entries.{key_at, count_of, detail_at}
use Rattle.hc_table.specs.Changes.{kind_at}
use Rattle.hc_slots.specs.Listed.{listed}
use Rattle.hc_slots.specs.Meaning.{held_in, datum_of, pair_of, prop_of, prop_in, slot_word, fast_props}
use Rattle.hc_slots.specs.Cases.{some-is}

datum-kind : (v : Option Value) → kind_of (datum_of v) ≡ DataProp
datum-kind (Some v) = refl
datum-kind None = refl

pair-kind : (p : Option (Option ℕ × Option ℕ)) → kind_of (pair_of p) ≡ AccessorProp
pair-kind (Some p) = refl
pair-kind None = refl

-- what a slot holds is of its entry's kind
pub held-kind : (kind : Kind) (r : Rep) (w : ℕ) → kind_of (held_in kind r w) ≡ kind
held-kind AccessorProp r w = pair-kind (unpair_of w)
held-kind DataProp Wide w = datum-kind (integer_of (unwide_of w))
held-kind DataProp Smi w = datum-kind (untagged_of w)
held-kind DataProp HeapObject w = datum-kind (untagged_of w)
held-kind DataProp Tagged w = datum-kind (untagged_of w)

-- where a list by index has a property of a kind
place-in : (f : ℕ → Prop) (n i : ℕ) (kind : Kind) → kind_at (listed f n) i ≡ Some kind → (i < n) × (kind_of (f i).held ≡ kind)
place-in f zero i kind e = let n : None ≡ Some kind = e in let g : ⊥ = cc in absurd g
place-in f (suc n) zero kind e = (omega arith, some-is (kind_of (f 0).held) kind e)
place-in f (suc n) (suc i) kind e = let h = place-in (λ k. f (suc k)) n i kind e in (omega arith, h.1)

-- a place of a fast object is an entry of its map
pub place-fast : (t : Trail) (o m i : ℕ) (kind : Kind) → kind_at (fast_props t o m) i ≡ Some kind → i < count_of t m
place-fast t o m i kind e = (place-in (prop_in t o m) (count_of t m) i kind e).0

-- whose key has the kind
pub kind-fast : (t : Trail) (o m i : ℕ) (kind : Kind) (key : Key) (d : Detail) → key_at t m i ≡ Some key → detail_at t m i ≡ Some d → kind_at (fast_props t o m) i ≡ Some kind → key.kind ≡ kind
kind-fast t o m i kind key d is_key admits e =
    let prop : prop_in t o m i ≡ prop_of (Some key) (Some d) (slot_word t o i) = ap (λ (x : Option Key). prop_of x (detail_at t m i) (slot_word t o i)) is_key ∙ ap (λ (x : Option Detail). prop_of (Some key) x (slot_word t o i)) admits in
    sym (held-kind key.kind d.rep (slot_word t o i)) ∙ sym (ap (λ (p : Prop). kind_of p.held) prop) ∙ (place-in (prop_in t o m) (count_of t m) i kind e).1
