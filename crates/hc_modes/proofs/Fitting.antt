-- What a field may hold that admits it, and its representation.
use Rattle.std.proofs.Common.{◌≡◌, ℕ, Bool, true, false, Option, Some, None, refl, sym, ◌∙◌, subst}
use Rattle.std.specs.Prelude.{IsTrue, IsSomeAnd, ◌&&◌}
use Rattle.hc_value.specs.Field.{is_detail_within, is_within, rep_of}
use Rattle.hc_value.specs.Word.{integer_of, untagged_of, unwide_of}
use Rattle.hc_value.specs.declared.field.Constness.{Constness}
use Rattle.hc_value.specs.declared.field.Detail.{Detail}
use Rattle.hc_value.specs.declared.field.Rep.{Rep}
use Rattle.hc_value.specs.declared.field.Rep.TheVariants.{Smi, Wide, HeapObject, Tagged}
use Rattle.hc_value.specs.declared.prop.Held.{Held}
use Rattle.hc_value.specs.declared.prop.Held.TheVariants.{Datum, Pair}
use Rattle.hc_value.specs.declared.prop.Kind.TheVariants.{DataProp}
use Rattle.hc_value.specs.declared.value.Value.{Value}
use Rattle.hc_heap.specs.Readings.{map_in}
use Rattle.hc_heap.specs.Writes.{Trail}
use Rattle.hc_descs.specs.Entries.{detail_at}
use Rattle.hc_facts.specs.Honest.{value_in, value_or}
use Rattle.hc_slots.specs.Cases.{some-is}
use Rattle.hc_slots.specs.Meaning.{MayHold, datum_of, held_in}
use Rattle.hc_modes.specs.Admitting.{HasRep, held_detail, held_rep}

-- the parts of what holds together
pub parts : (x y z : Bool) → IsTrue (x && y && z) → IsTrue x × IsTrue y × IsTrue z
parts true true true h = (refl, refl, refl)
parts true true false h = let n : ⊥ = cc in absurd n
parts true false z h = let n : ⊥ = cc in absurd n
parts false y z h = let n : ⊥ = cc in absurd n

may-hold-value : (r : Rep) (v : Value) → IsTrue (is_within (rep_of v) r) → MayHold r (Datum v)
may-hold-value Wide v h = h
may-hold-value Smi v h = tt
may-hold-value HeapObject v h = tt
may-hold-value Tagged v h = tt

may-hold-pair : (r : Rep) (getter setter : Option ℕ) → MayHold r (Pair getter setter)
may-hold-pair Wide getter setter = tt
may-hold-pair Smi getter setter = tt
may-hold-pair HeapObject getter setter = tt
may-hold-pair Tagged getter setter = tt

-- a field that admits what is held may hold it
pub may-hold : (t : Trail) (held : Held) (k : Constness) (e : Detail) → IsTrue (is_detail_within (held_detail t held k) e) → MayHold e.rep held
may-hold t (Datum v) k e h = may-hold-value e.rep v (parts _ _ _ h).0
may-hold t (Pair getter setter) k e h = may-hold-pair e.rep getter setter

-- the representation of what is asked
pub rep-asked : (t : Trail) (held : Held) (k : Constness) → (held_detail t held k).rep ≡ held_rep held
rep-asked t (Datum v) k = refl
rep-asked t (Pair getter setter) k = refl

-- the field of an object's property has the representation of what it admits
pub has-rep : (t : Trail) (o m i : ℕ) (d : Detail) → map_in t o ≡ Some m → detail_at t m i ≡ Some d → HasRep t o i d.rep
has-rep t o m i d is at k k_is =
    subst (λ (x : ℕ). IsSomeAnd (detail_at t x i) (λ y. y.rep ≡ d.rep)) (some-is m k (sym is ∙ k_is))
    (subst (λ (x : Option Detail). IsSomeAnd x (λ y. y.rep ≡ d.rep)) (sym at) refl)

pub rep-at : (t : Trail) (o m i : ℕ) (rep : Rep) (d : Detail) → HasRep t o i rep → map_in t o ≡ Some m → detail_at t m i ≡ Some d → d.rep ≡ rep
rep-at t o m i rep d has is at = subst (λ (x : Option Detail). IsSomeAnd x (λ y. y.rep ≡ rep)) at (has m is)

datum-value : (o : Option Value) (v : Value) → datum_of o ≡ Datum v → value_or o ≡ v
datum-value (Some a) v e = cc
datum-value None v e = cc

-- the value that is held
pub value-held : (r : Rep) (w : ℕ) (v : Value) → held_in DataProp r w ≡ Datum v → value_in r w ≡ v
value-held Smi w v e = datum-value (untagged_of w) v e
value-held Wide w v e = datum-value (integer_of (unwide_of w)) v e
value-held HeapObject w v e = datum-value (untagged_of w) v e
value-held Tagged w v e = datum-value (untagged_of w) v e
