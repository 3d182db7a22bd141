-- What a list of reads tells.
use Rattle.std.specs.Prelude.{◌≡◌, ℕ, Bool, true, false, List, [], ◌∷◌}
use Rattle.hc_board.specs.Trail.{Access}
use Rattle.hc_layout.specs.declared.shape.Shape.{Shape}
use Rattle.hc_plan.specs.Deps.{deps_of}
use Rattle.hc_plan.specs.declared.case.Case.{Case}
use Rattle.hc_plan.specs.declared.case.Site.{Site}
use Rattle.hc_plan.specs.declared.skip.Skip.{Skip}
use Rattle.hc_plan.specs.declared.skip.Why.TheVariants.{NoMaps, Mega, Skips}
use Rattle.hc_question.specs.declared.outcome.Outcome.{Outcome}
use Rattle.hc_question.specs.declared.outcome.Outcome.TheVariants.{Planned, NoPlan}
use Rattle.hc_question.specs.Ask.{tell, stop, asked_after}
use Rattle.hc_question.specs.Question.{question}

-- there is a plan exactly where some map has a case
abbrev pub of_cases : ℕ → Site → List Case → List Skip → Outcome
of_cases site what [] skips = NoPlan (Skips skips)
of_cases site what (case ∷ cases) skips =
    Planned (record { site = site; op = what.op; name = what.name; cases = case ∷ cases; deps = deps_of (case ∷ cases) })

abbrev pub of_feedback : ℕ → Site → List ℕ → List Case → List Skip → Outcome
of_feedback site what [] cases skips = NoPlan NoMaps
of_feedback site what (map ∷ maps) cases skips = of_cases site what cases skips

-- the outcome of a site, its feedback, and what was told of the maps
abbrev pub outcome_of : ℕ → Site → List ℕ → Bool → List Case → List Skip → Outcome
outcome_of site what maps true cases skips = NoPlan Mega
outcome_of site what maps false cases skips = of_feedback site what maps cases skips

-- these reads tell this outcome
pub record IsTold (s : Shape) (site : ℕ) (what : Site) (maps : List ℕ) (mega : Bool) (reads : List Access) (outcome : Outcome) : Type 0 where
  pub cases : List Case
  pub skips : List Skip
  pub asked : asked_after s reads (question s what maps mega) ≡ tell cases skips
  pub outcome_is : outcome ≡ outcome_of site what maps mega cases skips

-- these reads tell nothing: an item lay out of its region, a word wasn't written or not of its form, a map with
-- entries had no base, a constant's object had no slot, a child had no entry, or there were more links than the
-- board has
abbrev pub TellsNothing : Shape → Site → List ℕ → Bool → List Access → Type 0
TellsNothing s what maps mega reads = asked_after s reads (question s what maps mega) ≡ stop
