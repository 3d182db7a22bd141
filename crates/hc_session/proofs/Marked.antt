-- Each command of a run has one mark.
use Rattle.std.proofs.Common.{◌≡◌, ℕ, ◌+◌, List, [], ◌∷◌, length, length-append, refl, ap, arith}
use Rattle.hc_report.specs.declared.marks.Mark.{Mark}
use Rattle.hc_session.specs.Logging.{mark_of}
use Rattle.hc_session.specs.Output.{Place, Turns, Answers}
use Rattle.hc_session.specs.Standing.{Standing}
use Rattle.hc_session.specs.State.{Does, any_pace}
use mathlib.Core.Logic.{inl, inr}

module _ {P : Type 0} where
  -- as many marks came as commands were begun
  pub lines_marked : (lines : List (List ℕ)) (start end : Place (Standing P)) (text : List ℕ) → Answers (Does any_pace) start lines text end → length end.state.marks + start.begun ≡ length start.state.marks + end.begun
  lines_marked [] start end text answers = rw answers.0 refl
  lines_marked (line ∷ lines) start end text answers = by answers.0 answers.1 answers.3 (lines_marked lines answers.0 end answers.2 answers.4)
    where
      by : (mid : Place (Standing P)) (first : List ℕ) → Turns (Does any_pace) start line first mid → length end.state.marks + mid.begun ≡ length mid.state.marks + end.begun → length end.state.marks + start.begun ≡ length start.state.marks + end.begun
      by mid first (inl passed) rest = omega (arith, rest, passed.begun, ap (λ (s : Standing P). length s.marks) passed.same)
      by mid first (inr answered) rest =
          omega (arith, rest, answered.begun, ap (λ (marks : List Mark). length marks) answered.done.logs.mark, length-append start.state.marks (mark_of start.state ∷ []))
