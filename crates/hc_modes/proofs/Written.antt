-- An object with another word in one of its slots.
use Rattle.std.proofs.Common.{◌≡◌, ◌≢◌, ℕ, zero, suc, ◌<◌, List, ◌∷◌, Option, Some, refl, sym, ap, ◌∙◌, subst, arith}
use Rattle.std.specs.Prelude.{ℤ}
use Rattle.hc_layout.specs.declared.words.GateWord.{GateWord}
use Rattle.hc_value.specs.Word.{untagged_of, unwide_of, unpair_of, integer_of}
use Rattle.hc_value.specs.declared.value.Value.{Value}
use Rattle.hc_value.specs.declared.value.Value.TheVariants.{Int}
use Rattle.hc_value.specs.declared.field.Rep.{Rep}
use Rattle.hc_value.specs.declared.field.Rep.TheVariants.{Smi, Wide, HeapObject, Tagged}
use Rattle.hc_value.specs.declared.field.Detail.{Detail}
use Rattle.hc_value.specs.declared.key.Key.{Key}
use Rattle.hc_value.specs.declared.prop.Held.{Held}
use Rattle.hc_value.specs.declared.prop.Held.TheVariants.{Datum, Pair}
use Rattle.hc_value.specs.declared.prop.Kind.TheVariants.{DataProp, AccessorProp}
use Rattle.hc_value.specs.declared.prop.Prop.{Prop}
use Rattle.hc_heap.specs.Writes.{Trail}
use Rattle.hc_heap.specs.Readings.{gate_in, prototype_in}
use Rattle.hc_descs.specs.Entries.{key_at, count_of, entries_in, detail_at}
use Rattle.hc_table.specs.World.{Object, holding, held_at, with_list}
use Rattle.hc_slots.specs.Listed.{listed, listed-same}
use Rattle.hc_slots.specs.Meaning.{held_in, datum_of, pair_of, prop_of, prop_in, slot_word, proto_of, is_extensible, fast_props, fast_object}
use Rattle.hc_modes.proofs.Staying.{IsLater, prop-stays, gate-stays, proto-stays}

-- a value's word holds the value, a pair's the pair
pub held-tagged : (r : Rep) (w : ℕ) (v : Value) → r ≢ Wide → untagged_of w ≡ Some v → held_in DataProp r w ≡ Datum v
held-tagged Smi w v ne e = ap datum_of e
held-tagged HeapObject w v ne e = ap datum_of e
held-tagged Tagged w v ne e = ap datum_of e
held-tagged Wide w v ne e = absurd (ne refl)

pub held-wide : (w : ℕ) (n : ℤ) → unwide_of w ≡ Some n → held_in DataProp Wide w ≡ Datum (Int n)
held-wide w n e = ap (λ (x : Option ℤ). datum_of (integer_of x)) e

pub held-pair : (r : Rep) (w : ℕ) (getter setter : Option ℕ) → unpair_of w ≡ Some (getter, setter) → held_in AccessorProp r w ≡ Pair getter setter
held-pair r w getter setter e = ap pair_of e

-- a list by index, of which one holds something else
pub listed-held : (f g : ℕ → Prop) (n k : ℕ) (held : Held) → ((j : ℕ) → j < n → j ≢ k → g j ≡ f j) → (k < n → g k ≡ holding (f k) held) → listed g n ≡ held_at (listed f n) k held
listed-held f g zero k held same here = refl
listed-held f g (suc n) zero held same here =
    ap (λ (p : Prop). p ∷ listed (λ i. g (suc i)) n) (here (omega arith))
    ∙ ap (λ (ps : List Prop). holding (f 0) held ∷ ps) (listed-same (λ i. f (suc i)) (λ i. g (suc i)) n (λ i lt. same (suc i) (omega arith) (λ e. omega (arith, e))))
listed-held f g (suc n) (suc k) held same here =
    ap (λ (p : Prop). p ∷ listed (λ i. g (suc i)) n) (same 0 (omega arith) (λ e. omega (arith, e)))
    ∙ ap (λ (ps : List Prop). f 0 ∷ ps) (listed-held (λ i. f (suc i)) (λ i. g (suc i)) n k held (λ i lt ne. same (suc i) (omega arith) (λ e. ne (omega (arith, e)))) (λ lt. here (omega arith)))

-- a property whose slot has the word of something else
pub prop-written : (old new : Trail) (o m k : ℕ) (key : Key) (before after : Detail) (held : Held)
    → key_at old m k ≡ Some key → key_at new m k ≡ Some key → detail_at old m k ≡ Some before → detail_at new m k ≡ Some after
    → held_in key.kind after.rep (slot_word new o k) ≡ held → prop_in new o m k ≡ holding (prop_in old o m k) held
prop-written old new o m k key before after held key_was key_is was is e =
    ap (λ (x : Option Key). prop_of x (detail_at new m k) (slot_word new o k)) key_is
    ∙ ap (λ (d : Option Detail). prop_of (Some key) d (slot_word new o k)) is
    ∙ ap (λ (h : Held). let p : Prop = record { name = key.name; attrs = key.attrs; held = h } in p) e
    ∙ sym (
    ap (λ (x : Option Key). holding (prop_of x (detail_at old m k) (slot_word old o k)) held) key_was
    ∙ ap (λ (d : Option Detail). holding (prop_of (Some key) d (slot_word old o k)) held) was)

-- the object that keeps its map, and holds something else in one slot
pub fast-written : (old new : Trail) → IsLater old new → (o m : ℕ) (g : GateWord) (k : ℕ) (held : Held) → gate_in old m ≡ Some g
    → ((j : ℕ) → j < g.entries → j ≢ k → slot_word new o j ≡ slot_word old o j)
    → prop_in new o m k ≡ holding (prop_in old o m k) held
    → fast_object new o m ≡ with_list (fast_object old o m) (held_at (fast_props old o m) k held)
fast-written old new later o m g k held is words here =
    let count : count_of old m ≡ g.entries = ap entries_in is in
    let props : listed (prop_in new o m) (count_of old m) ≡ held_at (fast_props old o m) k held = listed-held (prop_in old o m) (prop_in new o m) (count_of old m) k held
    (λ j lt ne. let within : j < g.entries = subst (λ (n : ℕ). j < n) count lt in prop-stays old new later o m j g is within (words j within ne)) (λ lt. here) in
    ap (λ (q : Option (Option ℕ)). let x : Object = record { proto = proto_of q; extensible = is_extensible (gate_in new m); props = listed (prop_in new o m) (count_of new m) } in x) (proto-stays old new later m g is)
    ∙ ap (λ (h : Option GateWord). let x : Object = record { proto = proto_of (prototype_in old m); extensible = is_extensible h; props = listed (prop_in new o m) (entries_in h) } in x) (gate-stays old new later m g is)
    ∙ ap (λ (ps : List Prop). let x : Object = record { proto = proto_of (prototype_in old m); extensible = is_extensible (gate_in old m); props = ps } in x) props
