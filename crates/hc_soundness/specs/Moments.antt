-- At which moment a word was so.
use Rattle.std.specs.Prelude.{ℕ}
use Rattle.hc_layout.specs.declared.shape.Shape.{Shape}
use Rattle.hc_heap.specs.Writes.{Trail}
use Rattle.hc_heap.specs.Kept.{GoesOn}
use Rattle.hc_plan.specs.declared.case.Case.{Case}
use Rattle.hc_plan.specs.declared.case.Op.{Op}
use Rattle.hc_soundness.specs.Told.{IsTold}

-- it is so now
abbrev pub Now : Trail → (Trail → Type 0) → Type 0
Now t P = P t

-- it was so at some moment up to now
pub record Once (s : Shape) (t : Trail) (P : Trail → Type 0) : Type 0 where
  pub earlier : Trail
  pub goes_on : GoesOn s earlier t
  pub was : P earlier

-- a case is told by the words of one moment
abbrev pub IsToldNow : Trail → Op → ℕ → Case → Type 0
IsToldNow t = IsTold (Now t) t

-- a case is told by words that were seen, each at some moment up to now
abbrev pub IsSeen : Shape → Trail → Op → ℕ → Case → Type 0
IsSeen s t = IsTold (Once s t) t
