-- Stores to a writable property of an object's own.
use Rattle.std.proofs.Common.{◌≡◌, ℕ, ◌<◌, Bool, true, false, cond, eq-eqb, ◌&&◌, not, Option, Some, None, option_map, length, refl, sym, ap, ◌∙◌, subst, arith}
use Rattle.std.specs.Prelude.{IsSome, IsSomeAnd, List, slice_get}
use Rattle.hc_heap.specs.Lawful.{slot_word}
use Rattle.hc_value.specs.Attrs.{is_read_only}
use Rattle.hc_value.specs.Prop.{kind_of}
use Rattle.hc_value.specs.declared.attrs.Attrs.{Attrs}
use Rattle.hc_value.specs.declared.field.Detail.{Detail}
use Rattle.hc_value.specs.declared.field.Rep.{Rep}
use Rattle.hc_value.specs.declared.field.Rep.TheVariants.{Smi, Wide, HeapObject, Tagged}
use Rattle.hc_value.specs.declared.key.Key.{Key}
use Rattle.hc_value.specs.declared.prop.Held.{Held}
use Rattle.hc_value.specs.declared.prop.Held.TheVariants.{Datum, Pair}
use Rattle.hc_value.specs.declared.prop.Kind.{Kind}
use Rattle.hc_value.specs.declared.prop.Kind.TheVariants.{DataProp, AccessorProp}
use Rattle.hc_value.specs.declared.prop.Prop.{Prop}
use Rattle.hc_value.specs.declared.value.Value.{Value}
use Rattle.hc_heap.specs.Kept.{GatesAreOpen, UnusedSaysNothing}
use Rattle.hc_heap.specs.Readings.{gate_in, map_in}
use Rattle.hc_descs.specs.Entries.{IsFirstNamed, entries_in, key_at}
use Rattle.hc_table.specs.Attributes.{is_datum}
use Rattle.hc_table.specs.Changes.{Wrote, kind_at}
use Rattle.hc_table.specs.World.{World, place_of, props_at}
use Rattle.hc_ops.specs.Act.{answers, does}
use Rattle.hc_ops.specs.Set.{act_at, create_act, nearest_act, set_act, write_act, writable_act}
use Rattle.hc_plan.specs.declared.case.Op.TheVariants.{Store}
use Rattle.hc_slots.specs.Cases.{some-and}
use Rattle.hc_slots.specs.Listed.{slice_get-listed}
use Rattle.hc_slots.specs.Meaning.{datum_of, held_in, pair_of, prop_in}
use Rattle.hc_modes.specs.Came.{world_of}
use Rattle.hc_modes.specs.State.{IsObjects, ObjectsState}
use Rattle.hc_access.specs.Accesses.{is_writable}
use Rattle.hc_access.specs.Entries.{AdmitsKey, IsOwn}
use Rattle.hc_access.specs.Ways.{IsWritableAt}
use Rattle.hc_access.proofs.Keeping.{AreTold}
use Rattle.hc_access.proofs.Names.{named}
use Rattle.hc_access.proofs.Standing.{opened}
use Rattle.hc_access.proofs.Uses.{fast-props, first-at, nearest-own, own-at}

both-true : (a b : Bool) → (a && b) ≡ true → (a ≡ true) × (b ≡ true)
both-true true true e = (refl, refl)
both-true true false e = let f : ⊥ = cc in absurd f
both-true false b e = let f : ⊥ = cc in absurd f

not-true : (b : Bool) → not b ≡ true → b ≡ false
not-true false e = refl
not-true true e = let f : ⊥ = cc in absurd f

-- What a word holds is of its key's kind

datum-is : (v : Option Value) → is_datum (datum_of v) ≡ true
datum-is (Some v) = refl
datum-is None = refl

pair-is : (v : Option (Option ℕ × Option ℕ)) → is_datum (pair_of v) ≡ false
pair-is (Some v) = refl
pair-is None = refl

data-is : (r : Rep) (w : ℕ) → is_datum (held_in DataProp r w) ≡ true
data-is Wide w = datum-is _
data-is Smi w = datum-is _
data-is HeapObject w = datum-is _
data-is Tagged w = datum-is _

kind-of-datum : (kind : Kind) (r : Rep) (w : ℕ) → is_datum (held_in kind r w) ≡ true → kind ≡ DataProp
kind-of-datum DataProp r w e = refl
kind-of-datum AccessorProp r w e = let n : false ≡ true = sym (pair-is _) ∙ e in let f : ⊥ = cc in absurd f

datum-kind : (held : Held) → is_datum held ≡ true → kind_of held ≡ DataProp
datum-kind (Datum v) e = refl
datum-kind (Pair g s) e = let f : ⊥ = cc in absurd f

-- a property that is written may be given any value
pub kind-there : (w : World) (o name i : ℕ) (value : Value) → IsWritableAt w o name i → kind_at (props_at w o) i ≡ Some (kind_of (Datum value))
kind-there w o name i value h =
    let it = some-and (slice_get (props_at w o) i) (λ p. is_writable p ≡ true) h.property in
    ap (option_map (λ (p : Prop). kind_of p.held)) it.1.0 ∙ ap Some (datum-kind it.0.held (both-true (is_datum it.0.held) (not (is_read_only it.0.attrs)) it.1.1).0)

module _ {P : Type 0} (gates : GatesAreOpen) (unused : UnusedSaysNothing) (told : AreTold P) (s : ObjectsState P) (sound : IsObjects s.heap.view s.kept s.of_null) where
  -- a store to it is one write
  pub set-own : (o name i : ℕ) (value : Value) → o < length (world_of s) → IsWritableAt (world_of s) o name i → set_act (world_of s) o name value ≡ does (Wrote o i (Datum value))
  set-own o name i value lt h =
      let it = some-and (slice_get (props_at (world_of s) o) i) (λ p. is_writable p ≡ true) h.property in
      let parts = both-true (is_datum it.0.held) (not (is_read_only it.0.attrs)) it.1.1 in
      ap (act_at (world_of s) o name value) (nearest-own gates unused told s sound o name i it.0 lt h.place it.1.0)
      ∙ by it.0.attrs it.0.held parts.0 (not-true (is_read_only it.0.attrs) parts.1)
    where
      by : (attrs : Attrs) (held : Held) → is_datum held ≡ true → is_read_only attrs ≡ false → nearest_act (world_of s) o name value o attrs held ≡ does (Wrote o i (Datum value))
      by attrs (Pair g st) datum writable = let f : ⊥ = cc in absurd f
      by attrs (Datum old) datum writable =
          ap (λ (b : Bool). cond b (answers false) (writable_act (world_of s) o name value o)) writable
          ∙ (ap (λ (b : Bool). cond b (write_act o value (place_of (props_at (world_of s) o) name)) (create_act (world_of s) o name value)) (eq-eqb o o refl)
          ∙ ap (write_act o value) h.place)

  -- what stands at a map's entry of a writable property
  key-at : (o m i : ℕ) → map_in s.heap.view.trail o ≡ Some m → (name : ℕ) → IsFirstNamed s.heap.view.trail m name i
      → (C : Type 0) → ((key : Key) (d : Detail) (w : ℕ) → key_at s.heap.view.trail m i ≡ Some key → slice_get (props_at (world_of s) o) i ≡ Some (record { name = key.name; attrs = key.attrs; held = held_in key.kind d.rep w }) → C) → C
  key-at o m i is name first C use_it =
      let open_map = opened unused s sound o m is in
      let within : i < open_map.gate.entries = let lt = first.within in omega (arith, ap entries_in open_map.is_gate) in
      let n = named gates s.heap.view sound.heap m open_map.gate open_map.is_gate o i within in
      use_it n.key n.detail (slot_word s.heap.view.trail o i) n.is_key
      (ap (λ (ps : List Prop). slice_get ps i) (fast-props gates unused told s sound o m is)
      ∙ (slice_get-listed (prop_in s.heap.view.trail o m) (entries_in (gate_in s.heap.view.trail m)) i first.within ∙ ap Some n.property))

  -- an own entry of a store is such a property
  pub own-writable : (name o m i : ℕ) → map_in s.heap.view.trail o ≡ Some m → IsOwn s.heap.view.trail (record { op = Store; name = name }) m i → IsWritableAt (world_of s) o name i
  own-writable name o m i is own =
      key-at o m i is name own.first (IsWritableAt (world_of s) o name i)
      (λ key d w at_key at.
      let admits : (key.kind ≡ DataProp) × (is_read_only key.attrs ≡ false) = subst (AdmitsKey Store) at_key own.key in
      record {
        place = own-at gates unused told s sound (record { op = Store; name = name }) o m i is own.first;
        property = subst (λ (x : Option Prop). IsSomeAnd x (λ p. is_writable p ≡ true)) (sym at)
            (ap (λ (kind : Kind). is_datum (held_in kind d.rep w) && not (is_read_only key.attrs)) admits.0
            ∙ (ap (λ (b : Bool). b && not (is_read_only key.attrs)) (data-is d.rep w) ∙ ap not admits.1));
      })

  -- and the other way round
  pub writable-own : (name o m i : ℕ) → map_in s.heap.view.trail o ≡ Some m → IsWritableAt (world_of s) o name i → IsOwn s.heap.view.trail (record { op = Store; name = name }) m i
  writable-own name o m i is h =
      let first = first-at gates unused told s sound name o m i is h.place in
      let open_map = opened unused s sound o m is in
      key-at o m i is name first (IsOwn s.heap.view.trail (record { op = Store; name = name }) m i)
      (λ key d w at_key at.
      let it : is_writable (record { name = key.name; attrs = key.attrs; held = held_in key.kind d.rep w }) ≡ true = subst (λ (x : Option Prop). IsSomeAnd x (λ p. is_writable p ≡ true)) at h.property in
      let parts = both-true (is_datum (held_in key.kind d.rep w)) (not (is_read_only key.attrs)) it in
      record {
        opened = subst IsSome (sym open_map.is_gate) refl;
        first = first;
        key = subst (AdmitsKey Store) (sym at_key) (kind-of-datum key.kind d.rep w parts.0, not-true (is_read_only key.attrs) parts.1);
      })

  -- where full lookup finds one
  pub writable-found : (o name i : ℕ) (p : Prop) → o < length (world_of s) → place_of (props_at (world_of s) o) name ≡ Some i → slice_get (props_at (world_of s) o) i ≡ Some p → is_writable p ≡ true → IsWritableAt (world_of s) o name i
  writable-found o name i p lt place at is = record { place = place; property = subst (λ (x : Option Prop). IsSomeAnd x (λ q. is_writable q ≡ true)) (sym at) is }
