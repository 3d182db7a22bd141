-- What the answer of a case reads.
use Rattle.std.specs.Prelude.{ℕ, ◌+◌, ◌<◌, IsSomeAnd}
use Rattle.hc_layout.specs.declared.shape.Shape.{Shape}
use Rattle.hc_value.specs.declared.field.Rep.TheVariants.{Tagged}
use Rattle.hc_value.specs.declared.prop.Kind.TheVariants.{DataProp, AccessorProp}
use Rattle.hc_heap.specs.Lawful.{IsFormOf, slot_word}
use Rattle.hc_heap.specs.Readings.{store_in}
use Rattle.hc_heap.specs.Writes.{Trail}
use Rattle.hc_plan.specs.declared.case.Way.{Way}
use Rattle.hc_plan.specs.declared.case.Way.TheVariants.{Own, Holder, Constant, Absent, Getter, StoreOwn, Add, Setter, Reject}
use Rattle.hc_soundness.specs.Answers.{holder_of}

-- an object's k-th slot is one of the board's, and has a word of a form
pub record HasSlot (s : Shape) (t : Trail) (o k : ℕ) (IsOfForm : ℕ → Type 0) : Type 0 where
  pub there : IsSomeAnd (store_in t o).first (λ first. first + k < s.slots)
  pub form : IsOfForm (slot_word t o k)

-- a way can answer for an object: the slot that it reads, or writes, is there, and has a word of its form, a pair for an accessor and a
-- value by the field's representation for data; so has a constant's word
abbrev pub IsReadable : Shape → Trail → ℕ → Way → Type 0
IsReadable s t o (Own k f rep) = HasSlot s t o k (IsFormOf DataProp rep)
IsReadable s t o (Holder holder k f rep) = HasSlot s t holder k (IsFormOf DataProp rep)
IsReadable s t o (Constant holder k f rep w) = IsFormOf DataProp rep w
IsReadable s t o Absent = Unit {0}
IsReadable s t o (Getter at k) = HasSlot s t (holder_of at o) k (IsFormOf AccessorProp Tagged)
IsReadable s t o (StoreOwn k f rep class) = HasSlot s t o k (IsFormOf DataProp rep)
IsReadable s t o (Add child k f rep class) = Unit {0}
IsReadable s t o (Setter at k) = HasSlot s t (holder_of at o) k (IsFormOf AccessorProp Tagged)
IsReadable s t o Reject = Unit {0}
