-- Which writes can break a dependency.
use Rattle.std.specs.Prelude.{◌≡◌, ◌≢◌, ℕ, Option, Some, None, IfSome, List, [], ◌∷◌, ◌++◌, length}
use Rattle.std.specs.List.{AllByRecursion}
use Rattle.hc_layout.specs.declared.shape.Shape.{Shape}
use Rattle.hc_heap.specs.Kept.{GoesOn}
use Rattle.hc_heap.specs.Readings.{bits_in, detail_in}
use Rattle.hc_heap.specs.Writes.{Write, Trail, Bits, FieldDetail}
use Rattle.hc_plan.specs.declared.deps.Dep.{Dep}
use Rattle.hc_plan.specs.declared.deps.Dep.TheVariants.{Live, Stable, Rep as HasRep, Const as IsConst, Class as HasClass, Value as HasValue}
use Rattle.hc_deps.specs.Trails.{HoldsButValueIn}

-- what a dependency is on, other than the word of a slot: a map's bits, or a field's detail
pub data Subject : Type 0 where
  OfMap : ℕ → Subject
  OfField : ℕ → Subject

abbrev pub subject_of : Dep → Option Subject
subject_of (Live map) = Some (OfMap map)
subject_of (Stable map) = Some (OfMap map)
subject_of (HasRep field rep) = Some (OfField field)
subject_of (IsConst field) = Some (OfField field)
subject_of (HasClass field class) = Some (OfField field)
subject_of (HasValue object slot word) = None

-- the word of a subject says what it said
abbrev pub IsSame : Trail → Trail → Subject → Type 0
IsSame old new (OfMap map) = bits_in new map ≡ bits_in old map
IsSame old new (OfField field) = detail_in new field ≡ detail_in old field

-- the subjects to which writes are, the newest first
abbrev pub subjects_of : Trail → List Subject
subjects_of [] = []
subjects_of (Bits map bits ∷ t) = OfMap map ∷ subjects_of t
subjects_of (FieldDetail field detail ∷ t) = OfField field ∷ subjects_of t
subjects_of (_ ∷ t) = subjects_of t

-- how many writes were to the bits of maps and the details of fields
abbrev pub breaks : Trail → ℕ
breaks t = length (subjects_of t)

-- a dependency holds still where its subject's word says what it said
abbrev pub SameSubjectsHold : Type 0
SameSubjectsHold = (s : Shape) (old new : Trail) (dep : Dep) → IfSome (subject_of dep) (IsSame old new) → HoldsButValueIn s old dep → HoldsButValueIn s new dep

-- a dependency holds still after writes of which none is to its subject
abbrev pub OthersAreUnbroken : Type 0
OthersAreUnbroken = (s : Shape) (old : Trail) (more : List Write) (dep : Dep) → IfSome (subject_of dep) (λ subject. AllByRecursion (λ other. other ≢ subject) (subjects_of more))
    → HoldsButValueIn s old dep → HoldsButValueIn s (more ++ old) dep

-- where no more writes were to bits and details, no dependency is broken
abbrev pub QuietBreaksNone : Type 0
QuietBreaksNone = (s : Shape) (old new : Trail) (dep : Dep) → GoesOn s old new → breaks new ≡ breaks old → HoldsButValueIn s old dep → HoldsButValueIn s new dep
