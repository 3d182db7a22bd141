-- Honest fields, and constants.
use Rattle.std.proofs.Common.{◌≡◌, ◌≢◌, ℕ, ◌<◌, ◌≤◌, Bool, true, false, cond, Option, Some, None, refl, sym, ap, ◌∙◌, subst, IsSome, ⊎_elim, true≢false, eqb, eqb-true, eq-eqb}
use Rattle.std.specs.Prelude.{IsTrue, IsSomeAnd, ◌&&◌}
use Rattle.hc_layout.specs.declared.shape.Shape.{Shape}
use Rattle.hc_layout.specs.declared.words.GateWord.{GateWord}
use Rattle.hc_value.specs.Field.{in_place_of, is_class_within, is_constness_within, is_detail_within, is_within, rep_of}
use Rattle.hc_value.specs.declared.field.Class.{Class}
use Rattle.hc_value.specs.declared.field.Class.TheVariants.{Of, Any}
use Rattle.hc_value.specs.declared.field.Constness.{Constness}
use Rattle.hc_value.specs.declared.field.Constness.TheVariants.{Const}
use Rattle.hc_value.specs.declared.field.Detail.{Detail}
use Rattle.hc_value.specs.declared.field.Rep.{Rep}
use Rattle.hc_value.specs.declared.field.Rep.TheVariants.{Smi, Wide, HeapObject, Tagged}
use Rattle.hc_value.specs.declared.value.Value.{Value}
use Rattle.hc_value.specs.declared.value.Value.TheVariants.{Undefined, Null, Bool as Boolean, Int, Text, Obj}
use Rattle.hc_heap.specs.Kept.{DetailsRise, EntriesAreKept, FormsAreKept, GatesAreOpen, GoesOn, SetIsKept, StableIsKept}
use Rattle.hc_heap.specs.Frames.{goes-still}
use Rattle.hc_heap.specs.States.{View, IsHeap}
use Rattle.hc_heap.specs.Lawful.{IsField, Lawful, RisesTo, slot_word}
use Rattle.hc_heap.specs.Readings.{gate_in, bits_in, detail_in, map_in, store_in}
use Rattle.hc_heap.specs.Writes.{Trail}
use Rattle.hc_descs.specs.Entries.{field_at}
use Rattle.hc_facts.specs.Constants.{ConstantsStayFor}
use Rattle.hc_facts.specs.Honest.{HasDatum, IsCarried, IsFilled, IsGiven, IsHonest, IsObjectOf, IsTrueOf, class_by, class_of, detail_for, value_in}
use Rattle.hc_facts.specs.Laws.{WasAt}

-- Orders

within-on : (a b c : Rep) → IsTrue (is_within a b) → IsTrue (is_within b c) → IsTrue (is_within a c)
within-on a b Tagged h k = tagged-top a
  where
    tagged-top : (a : Rep) → IsTrue (is_within a Tagged)
    tagged-top Smi = refl
    tagged-top Wide = refl
    tagged-top HeapObject = refl
    tagged-top Tagged = refl
within-on a Smi Smi h k = h
within-on a Wide Wide h k = h
within-on a HeapObject HeapObject h k = h
within-on Smi Smi Wide h k = refl
within-on Wide Smi Wide h k = refl
within-on HeapObject Smi Wide h k = let n : ⊥ = cc in absurd n
within-on Tagged Smi Wide h k = let n : ⊥ = cc in absurd n
within-on a Smi HeapObject h k = let n : ⊥ = cc in absurd n
within-on a Wide Smi h k = let n : ⊥ = cc in absurd n
within-on a Wide HeapObject h k = let n : ⊥ = cc in absurd n
within-on a HeapObject Smi h k = let n : ⊥ = cc in absurd n
within-on a HeapObject Wide h k = let n : ⊥ = cc in absurd n
within-on a Tagged Smi h k = let n : ⊥ = cc in absurd n
within-on a Tagged Wide h k = let n : ⊥ = cc in absurd n
within-on a Tagged HeapObject h k = let n : ⊥ = cc in absurd n

first-true : (x y z : Bool) → IsTrue (x && y && z) → IsTrue x × IsTrue y × IsTrue z
first-true true true true h = (refl, refl, refl)
first-true true true false h = let n : ⊥ = cc in absurd n
first-true true false z h = let n : ⊥ = cc in absurd n
first-true false y z h = let n : ⊥ = cc in absurd n

-- what is within the class of a map is that class
class-is : (a b : Class) (c : ℕ) → b ≡ Of c → IsTrue (is_class_within a b) → a ≡ Of c
class-is a b c is h = at a (subst (λ (x : Class). IsTrue (is_class_within a x)) is h)
  where
    at : (a : Class) → IsTrue (is_class_within a (Of c)) → a ≡ Of c
    at (Of m) h = ap Of (eqb-true m c h)
    at Any h = let n : ⊥ = cc in absurd n

-- Classes of values

module _ (set : SetIsKept) (stable : StableIsKept) (s : Shape) (old new : Trail) (goes : GoesOn s old new) where
  was-stable : (c : ℕ) → (bits_in new c).unstable ≡ false → (bits_in old c).unstable ≡ false
  was-stable c is = by (bits_in old c).unstable refl
    where
      by : (b : Bool) → (bits_in old c).unstable ≡ b → (bits_in old c).unstable ≡ false
      by true e = absurd (true≢false (sym ((set s old new goes).unstable c e) ∙ is))
      by false e = e

  -- an object keeps a map that isn't unstable later on
  object-stays : (c : ℕ) (v : Value) → (bits_in new c).unstable ≡ false → IsObjectOf old c v → IsObjectOf new c v
  object-stays c (Obj q) is h = (stable s old new q c goes h is).map
  object-stays c Undefined is h = h
  object-stays c Null is h = h
  object-stays c (Boolean b) is h = h
  object-stays c (Int z) is h = h
  object-stays c (Text n) is h = h

  class-case : (c m : ℕ) (b : Bool) → cond b Any (Of m) ≡ Of c → m ≡ c
  class-case c m true e = let n : ⊥ = cc in absurd n
  class-case c m false e = cc

  object-by : (q c : ℕ) (o : Option ℕ) → map_in old q ≡ o → class_by old o ≡ Of c → map_in old q ≡ Some c
  object-by q c (Some m) is e = is ∙ ap (λ (x : ℕ). Some x) (class-case c m (bits_in old m).unstable e)
  object-by q c None is e = let n : ⊥ = cc in absurd n

  -- a value of a class is an object of it
  object-of : (c : ℕ) (v : Value) → class_of old v ≡ Of c → IsObjectOf old c v
  object-of c (Obj q) e = object-by q c (map_in old q) refl e
  object-of c Undefined e = let n : ⊥ = cc in absurd n
  object-of c Null e = let n : ⊥ = cc in absurd n
  object-of c (Boolean b) e = let n : ⊥ = cc in absurd n
  object-of c (Int z) e = let n : ⊥ = cc in absurd n
  object-of c (Text x) e = let n : ⊥ = cc in absurd n

  -- fields stay honest
  pub honest : IsHonest old → ((o : ℕ) → IsFilled old new o) → IsHonest new
  honest before filled o m k f d datum admits = ⊎_elim carried given (filled o m k f d datum admits)
    where
      carried : IsCarried old new o k d → IsTrueOf new d (value_in d.rep (slot_word new o k))
      carried it =
          let was = before o it.map it.place it.field it.detail it.was it.admits in
          let parts = first-true (is_within it.detail.rep d.rep) (is_constness_within it.detail.constness d.constness) (is_class_within it.detail.class d.class) it.within in
          subst (IsTrueOf new d) (sym it.same) (record {
            rep = within-on _ it.detail.rep d.rep was.rep parts.0;
            class = λ c is stays. object-stays c _ stays (was.class c (class-is it.detail.class d.class c is parts.2) (was-stable c stays));
          })

      given : IsGiven old new o k d → IsTrueOf new d (value_in d.rep (slot_word new o k))
      given it = subst (IsTrueOf new d) (sym it.is) (record {
        rep = it.rep;
        class = λ c is stays. object-stays c it.value stays (object-of c it.value (class-is (class_of old it.value) d.class c is it.class));
      })

-- Objects with the same map and words

value-in-place : (a b : Rep) (w : ℕ) → IsTrue (in_place_of a b) → value_in b w ≡ value_in a w
value-in-place Smi Smi w h = refl
value-in-place Wide Wide w h = refl
value-in-place HeapObject HeapObject w h = refl
value-in-place Tagged Tagged w h = refl
value-in-place Smi Tagged w h = refl
value-in-place HeapObject Tagged w h = refl
value-in-place a b w h = let n : ⊥ = cc in absurd n

some-with : {T : Type 0} (P : T → Type 0) (o : Option T) → IsSomeAnd o P → (v : T) × ((o ≡ Some v) × P v)
some-with P (Some v) h = (v, (refl, h))
some-with P None h = absurd h

some-of : {T : Type 0} (o : Option T) → IsSome o → (v : T) × (o ≡ Some v)
some-of (Some v) h = (v, refl)
some-of None h = let n : ⊥ = cc in absurd n

same-some : {T : Type 0} (a b : T) (o : Option T) → o ≡ Some a → o ≡ Some b → a ≡ b
same-some a b o p q = cc

pub carried-on : DetailsRise → EntriesAreKept → FormsAreKept → GatesAreOpen → (written : (s : Shape) (old new : Trail) (m : ℕ) (g : GateWord) → GoesOn s old new → gate_in old m ≡ Some g → gate_in new m ≡ Some g) → (s : Shape) (old new : Trail) (o m k f : ℕ) (d : Detail) → Lawful s old → GoesOn s old new → map_in new o ≡ map_in old o → slot_word new o k ≡ slot_word old o k
    → HasDatum new o m k f → detail_in new f ≡ Some d → IsCarried old new o k d
carried-on rise entries forms gates written s old new o m k f d lawful goes maps word datum admits =
    let has : map_in old o ≡ Some m = sym maps ∙ datum.has in
    let g = some-with _ (gate_in old m) ((forms s old lawful).object_map o m has).is_open in
    let same : g.0 ≡ datum.gate = same-some g.0 datum.gate (gate_in new m) (written s old new m g.0 goes g.1.0) datum.is_open in
    let within : k < g.0.entries = subst (λ (x : GateWord). k < x.entries) (sym same) datum.within in
    let stay = entries s old new new m g.0 k goes (goes-still s goes.lawful) g.1.0 within in
    let field : field_at old m k ≡ Some f = sym stay.field ∙ datum.field in
    let made = some-with (λ (x : ℕ). IsField old x) (field_at old m k) ((gates s old m g.0 lawful g.1.0).entries.fields k within) in
    let is_f : made.0 ≡ f = same-some made.0 f (field_at old m k) made.1.0 field in
    let e = some-of (detail_in old f) (subst (λ (x : ℕ). IsSome (detail_in old x)) is_f made.1.1.detail) in
    let rises : RisesTo e.0 d = at (λ (x : Detail). RisesTo e.0 x) (detail_in new f) d admits (rise s old new f e.0 goes e.1) in
    record {
      map = m;
      place = k;
      field = f;
      detail = e.0;
      was = record { has = has; gate = g.0; is_open = g.1.0; within = within; key = datum.key; is_key = sym stay.key ∙ datum.is_key; datum = datum.datum; field = field };
      admits = e.1;
      within = rises.within;
      same = value-in-place e.0.rep d.rep (slot_word new o k) rises.in_place ∙ ap (value_in e.0.rep) word;
    }
  where
    at : (P : Detail → Type 0) (x : Option Detail) (d : Detail) → x ≡ Some d → IsSomeAnd x P → P d
    at P (Some y) d is h = let same : y ≡ d = cc in subst P same h
    at P None d is h = absurd h

-- an object that came to another map
pub moved : (old new : Trail) (o c k f : ℕ) (d : Detail) → HasDatum new o c k f → WasAt old new o c k d → IsCarried old new o k d
moved old new o c k f d datum it = record {
  map = it.map;
  place = k;
  field = it.field;
  detail = it.detail;
  was = record { has = it.had; gate = it.gate; is_open = it.is_open; within = it.within; key = datum.key; is_key = it.same_key ∙ datum.is_key; datum = datum.datum; field = it.is_field };
  admits = it.admits;
  within = it.inside;
  same = it.same;
}

pub given : (old new : Trail) (o k : ℕ) (v : Value) (constness : Constness) (d : Detail) → value_in d.rep (slot_word new o k) ≡ v → IsTrue (is_detail_within (detail_for old v constness) d) → IsGiven old new o k d
given old new o k v constness d is within =
    let parts = first-true (is_within (rep_of v) d.rep) (is_constness_within constness d.constness) (is_class_within (class_of old v) d.class) within in
    record { value = v; is = is; rep = parts.0; class = parts.2 }

pub storing : (old new : Trail) (o i : ℕ) → ((k : ℕ) → k ≢ i → slot_word new o k ≡ slot_word old o k)
    → ((m f : ℕ) (d : Detail) → HasDatum old o m i f → detail_in new f ≡ Some d → d.constness ≡ Const → slot_word new o i ≡ slot_word old o i) → ConstantsStayFor old new o
storing old new o i words here m k f d datum admits const stable = by (eqb k i) refl
  where
    by : (b : Bool) → eqb k i ≡ b → slot_word new o k ≡ slot_word old o k
    by true e =
        let same : k ≡ i = eqb-true k i e in
        subst (λ (x : ℕ). slot_word new o x ≡ slot_word old o x) (sym same) (here m f d (subst (λ (x : ℕ). HasDatum old o m x f) same datum) admits const)
    by false e = words k (λ is. true≢false (sym (eq-eqb k i is) ∙ e))

-- an object's map is there, and open
pub map-there : FormsAreKept → (v : View) → IsHeap v → (o m : ℕ) → map_in v.trail o ≡ Some m → (m < v.shape.maps) × IsSome (gate_in v.trail m)
map-there forms v heap o m is =
    let places = (forms v.shape v.trail heap.lawful).object_map o m is in
    (places.there, by (gate_in v.trail m) places.is_open)
  where
    by : (x : Option GateWord) → IsSomeAnd x (λ g. g.entries ≤ (store_in v.trail o).capacity) → IsSome x
    by (Some g) h = refl
    by None h = absurd h
