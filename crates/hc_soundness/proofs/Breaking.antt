-- Writes that aren't to a dependency's subject leave it as it is.
use Rattle.std.proofs.Common.{◌≡◌, ◌≢◌, ℕ, ◌+◌, cond, Option, Some, None, List, [], ◌∷◌, ◌++◌, length, length-append, refl, sym, ap, ◌∙◌, subst, arith}
use Rattle.std.proofs.lemmas.Bool.{ne_eqb}
use Rattle.std.specs.List.{AllByRecursion}
use Rattle.std.specs.Prelude.{IfSome, IsSomeAnd}
use Rattle.hc_layout.specs.declared.shape.Shape.{Shape}
use Rattle.hc_layout.specs.declared.words.MapBits.{MapBits}
use Rattle.hc_value.specs.declared.field.Constness.TheVariants.{Const}
use Rattle.hc_value.specs.declared.field.Detail.{Detail}
use Rattle.hc_heap.specs.Kept.{GoesOn}
use Rattle.hc_heap.specs.Readings.{bits_in, detail_in}
use Rattle.hc_heap.specs.Writes.{Write, Trail, Bits, FieldDetail}
use Rattle.hc_plan.specs.declared.deps.Dep.{Dep}
use Rattle.hc_plan.specs.declared.deps.Dep.TheVariants.{Live, Stable, Rep as HasRep, Const as IsConst, Class as HasClass, Value as HasValue}
use Rattle.hc_soundness.specs.Breaks.{Subject, OfMap, OfField, subject_of, IsSame, subjects_of, breaks}
use Rattle.hc_deps.specs.Trails.{HoldsButValueIn}

pub same-holds : (s : Shape) (old new : Trail) (dep : Dep) → IfSome (subject_of dep) (IsSame old new) → HoldsButValueIn s old dep → HoldsButValueIn s new dep
same-holds s old new (Live m) same h = (h.0, ap (λ (b : MapBits). b.deprecated) same ∙ h.1)
same-holds s old new (Stable m) same h = (h.0, ap (λ (b : MapBits). b.unstable) same ∙ h.1)
same-holds s old new (HasRep f rep) same h = subst (λ x. IsSomeAnd x (λ (d : Detail). d.rep ≡ rep)) (sym same) h
same-holds s old new (IsConst f) same h = subst (λ x. IsSomeAnd x (λ (d : Detail). d.constness ≡ Const)) (sym same) h
same-holds s old new (HasClass f class) same h = subst (λ x. IsSomeAnd x (λ (d : Detail). d.class ≡ class)) (sym same) h
same-holds s old new (HasValue o k w) same h = h

module _ (old : Trail) where
  bits-same : (m : ℕ) (more : List Write) → AllByRecursion (λ other. other ≢ OfMap m) (subjects_of more) → bits_in (more ++ old) m ≡ bits_in old m
  bits-same m [] h = refl
  bits-same m (Bits n b ∷ more) h =
      ap (λ x. cond x b (bits_in (more ++ old) m)) (ne_eqb n m (λ same. h.0 (ap OfMap same))) ∙ bits-same m more h.1
  bits-same m (FieldDetail f d ∷ more) h = bits-same m more h.1
  bits-same m (w ∷ more) h = bits-same m more h

  detail-same : (f : ℕ) (more : List Write) → AllByRecursion (λ other. other ≢ OfField f) (subjects_of more) → detail_in (more ++ old) f ≡ detail_in old f
  detail-same f [] h = refl
  detail-same f (FieldDetail g d ∷ more) h =
      ap (λ x. cond x (Some d) (detail_in (more ++ old) f)) (ne_eqb g f (λ same. h.0 (ap OfField same))) ∙ detail-same f more h.1
  detail-same f (Bits n b ∷ more) h = detail-same f more h.1
  detail-same f (w ∷ more) h = detail-same f more h

  same-subject : (subject : Subject) (more : List Write) → AllByRecursion (λ other. other ≢ subject) (subjects_of more) → IsSame old (more ++ old) subject
  same-subject (OfMap m) more h = bits-same m more h
  same-subject (OfField f) more h = detail-same f more h

  pub unbroken : (s : Shape) (more : List Write) (dep : Dep) → IfSome (subject_of dep) (λ subject. AllByRecursion (λ other. other ≢ subject) (subjects_of more))
      → HoldsButValueIn s old dep → HoldsButValueIn s (more ++ old) dep
  unbroken s more dep h holds = same-holds s old (more ++ old) dep (by (subject_of dep) h) holds
    where
      by : (subject : Option Subject) → IfSome subject (λ x. AllByRecursion (λ other. other ≢ x) (subjects_of more)) → IfSome subject (IsSame old (more ++ old))
      by (Some subject) k = same-subject subject more k
      by None k = tt

  -- as many writes as before are none to a subject
  subjects-append : (more : List Write) → subjects_of (more ++ old) ≡ subjects_of more ++ subjects_of old
  subjects-append [] = refl
  subjects-append (Bits n b ∷ more) = ap (λ x. OfMap n ∷ x) (subjects-append more)
  subjects-append (FieldDetail f d ∷ more) = ap (λ x. OfField f ∷ x) (subjects-append more)
  subjects-append (w ∷ more) = subjects-append more

  none-of : (subjects : List Subject) (subject : Subject) → length subjects ≡ 0 → AllByRecursion (λ other. other ≢ subject) subjects
  none-of [] subject h = tt
  none-of (x ∷ xs) subject h = absurd (omega (arith, h))

  quiet : (more : List Write) (subject : Subject) → breaks (more ++ old) ≡ breaks old → AllByRecursion (λ other. other ≢ subject) (subjects_of more)
  quiet more subject h =
      let count : length (subjects_of more) + breaks old ≡ breaks old = sym (length-append (subjects_of more) (subjects_of old)) ∙ ap length (sym (subjects-append more)) ∙ h in
      none-of (subjects_of more) subject (omega (arith, count))

pub quiet-holds : (s : Shape) (old new : Trail) (dep : Dep) → GoesOn s old new → breaks new ≡ breaks old → HoldsButValueIn s old dep → HoldsButValueIn s new dep
quiet-holds s old new dep goes same holds =
    subst (λ t. HoldsButValueIn s t dep) (sym goes.is)
    (unbroken old s goes.more dep (by (subject_of dep)) holds)
  where
    count : breaks (goes.more ++ old) ≡ breaks old
    count = ap breaks (sym goes.is) ∙ same

    by : (subject : Option Subject) → IfSome subject (λ x. AllByRecursion (λ other. other ≢ x) (subjects_of goes.more))
    by (Some subject) = quiet old goes.more subject count
    by None = tt
