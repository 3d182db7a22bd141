-- Constants over several steps.
use Rattle.std.proofs.Common.{◌≡◌, ℕ, ◌<◌, Bool, true, false, true≢false, Option, Some, None, IsSome, refl, sym, ◌∙◌, subst}
use Rattle.std.specs.Prelude.{IsTrue, IsSomeAnd, ◌&&◌}
use Rattle.hc_layout.specs.declared.shape.Shape.{Shape}
use Rattle.hc_layout.specs.declared.words.GateWord.{GateWord}
use Rattle.hc_value.specs.Field.{is_class_within, is_constness_within, is_within}
use Rattle.hc_value.specs.declared.field.Constness.{Constness}
use Rattle.hc_value.specs.declared.field.Constness.TheVariants.{Const, Mutable}
use Rattle.hc_value.specs.declared.field.Detail.{Detail}
use Rattle.hc_heap.specs.Writes.{Trail}
use Rattle.hc_heap.specs.Readings.{gate_in, bits_in, detail_in}
use Rattle.hc_heap.specs.Lawful.{IsField, RisesTo}
use Rattle.hc_heap.specs.Kept.{DetailsRise, EntriesAreKept, EntriesStay, GatesAreOpen, GoesOn, SetIsKept, StableIsKept, WrittenIsKept}
use Rattle.hc_heap.specs.Frames.{goes-still, lawful-before}
use Rattle.hc_descs.specs.Entries.{field_at}
use Rattle.hc_facts.specs.Constants.{ConstantsStay}
use Rattle.hc_facts.specs.Honest.{HasDatum}

at-some : {T : Type 0} (P : T → Type 0) (x : Option T) (v : T) → x ≡ Some v → IsSomeAnd x P → P v
at-some P x v is h = subst (λ y. IsSomeAnd y P) is h

some-of : {T : Type 0} (x : Option T) → IsSome x → (v : T) × (x ≡ Some v)
some-of (Some v) h = (v, refl)
some-of None h = let n : ⊥ = cc in absurd n

middle-true : (x y z : Bool) → IsTrue (x && y && z) → IsTrue y
middle-true true true z h = refl
middle-true true false z h = let n : ⊥ = cc in absurd n
middle-true false y z h = let n : ⊥ = cc in absurd n

was-const : (a b : Constness) → IsTrue (is_constness_within a b) → b ≡ Const → a ≡ Const
was-const Const b h is = refl
was-const Mutable Const h is = let n : ⊥ = cc in absurd n
was-const Mutable Mutable h is = let n : ⊥ = cc in absurd n

const-before : (d e : Detail) → RisesTo d e → e.constness ≡ Const → d.constness ≡ Const
const-before d e rises is = was-const d.constness e.constness (middle-true (is_within d.rep e.rep) (is_constness_within d.constness e.constness) (is_class_within d.class e.class) rises.within) is

module _ (written : WrittenIsKept) (entries : EntriesAreKept) (set : SetIsKept) (stable : StableIsKept) (rise : DetailsRise) (gates : GatesAreOpen)
    (s : Shape) (old middle new : Trail) (first : GoesOn s old middle) (second : GoesOn s middle new) where
  stable-before : (m : ℕ) (b : Bool) → (bits_in middle m).unstable ≡ b → (bits_in new m).unstable ≡ false → b ≡ false
  stable-before m true is now = absurd (true≢false (sym ((set s middle new second).unstable m is) ∙ now))
  stable-before m false is now = refl

  entry-stays : (m k : ℕ) (g : GateWord) → gate_in old m ≡ Some g → k < g.entries → EntriesStay old middle middle m k
  entry-stays m k g is lt = entries s old middle middle m g k first (goes-still s first.lawful) is lt

  datum-on : (o m k f : ℕ) → (bits_in middle m).unstable ≡ false → HasDatum old o m k f → HasDatum middle o m k f
  datum-on o m k f calm h =
      let entry = entry-stays m k h.gate h.is_open h.within in
      record {
        has = (stable s old middle o m first h.has calm).map;
        gate = h.gate;
        is_open = (written s old middle first).gate m h.gate h.is_open;
        within = h.within;
        key = h.key;
        is_key = entry.key ∙ h.is_key;
        datum = h.datum;
        field = entry.field ∙ h.field;
      }

  const-middle : (o m k f : ℕ) → HasDatum middle o m k f → (d : Detail) → detail_in new f ≡ Some d → d.constness ≡ Const → (e : Detail) × (detail_in middle f ≡ Some e) × (e.constness ≡ Const)
  const-middle o m k f h d is const =
      let made = at-some (λ x. IsField middle x) (field_at middle m k) f h.field ((gates s middle m h.gate (lawful-before s second) h.is_open).entries.fields k h.within) in
      let e = some-of (detail_in middle f) made.detail in
      let rises : RisesTo e.0 d = at-some (λ x. RisesTo e.0 x) (detail_in new f) d is (rise s middle new f e.0 second e.1) in
      (e.0, e.1, const-before e.0 d rises const)

  pub constants-on : ConstantsStay old middle → ConstantsStay middle new → ConstantsStay old new
  constants-on a b o m k f d h is const calm =
      let before = stable-before m (bits_in middle m).unstable refl calm in
      let middle_datum = datum-on o m k f before h in
      let e = const-middle o m k f middle_datum d is const in
      b o m k f d middle_datum is const calm ∙ a o m k f e.0 h e.1 e.2 before
