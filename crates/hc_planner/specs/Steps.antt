-- One look, which brings what was asked to what is asked now.
use Rattle.std.specs.Prelude.{List, [], ◌∷◌}
use Rattle.hc_board.specs.Trail.{Access}
use Rattle.hc_layout.specs.declared.shape.Shape.{Shape}
use Rattle.hc_question.specs.Ask.{Ask, LeadsTo}
use Rattle.hc_question.specs.Question.{Then}

pub record Steps {L : Type 0} (looked : L → List Access → L → Type 0) (s : Shape) (old new : L) (before after : Then → Ask) : Type 0 where
  pub read : Access
  pub looks : looked old (read ∷ []) new
  pub leads : (next : Then) → LeadsTo s (before next) (read ∷ []) (after next)
