-- What becomes of the outcome of a job, and what the log gets of it.
use Rattle.std.specs.Prelude.{ℕ}
use Rattle.hc_board.specs.States.{words_of}
use Rattle.hc_modes.specs.State.{ObjectsState}
use Rattle.hc_question.specs.declared.outcome.Outcome.{Outcome}
use Rattle.hc_deps.specs.Verdicts.{IsVerdict}
use Rattle.hc_deps.specs.declared.verdict.Verdict.{Verdict}
use Rattle.hc_deps.specs.declared.verdict.Verdict.TheVariants.{Installed, Refused, NoPlan}
use Rattle.hc_report.specs.declared.line.Line.{Line}
use Rattle.hc_report.specs.declared.line.Line.TheVariants.{Install, Refuse, NoPlan as NoPlanLine}

-- the verdict on an outcome, by the words of this moment
abbrev pub IsOutcomeAt : {P : Type 0} → ObjectsState P → Outcome → Verdict → Type 0
IsOutcomeAt a outcome verdict = IsVerdict a.heap.view.shape (words_of a.heap.desk) outcome verdict

-- the line of a verdict: the job, and its site where the plan is installed, or what it is refused for, or why there is none
abbrev pub verdict_line : ℕ → ℕ → Verdict → Line
verdict_line job site Installed = Install job site
verdict_line job site (Refused dep) = Refuse job dep
verdict_line job site (NoPlan why) = NoPlanLine job why

-- a plan wasn't refused
abbrev pub IsNotRefused : Verdict → Type 0
IsNotRefused (Refused dep) = ⊥
IsNotRefused _ = Unit {0}
