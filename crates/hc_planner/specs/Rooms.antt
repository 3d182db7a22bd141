-- The memory of a job.
use Rattle.std.specs.Prelude.{◌≡◌, ◌≤◌, ℕ, List, [], length}
use Rattle.hc_layout.specs.Shape.{IsShape}
use Rattle.hc_layout.specs.declared.shape.Shape.{Shape}
use Rattle.hc_plan.specs.declared.case.Case.{Case}
use Rattle.hc_plan.specs.declared.deps.Dep.{Dep}
use Rattle.hc_planner.specs.declared.seeker.Seeker.{Seeker}

-- there is room for a case of each map, and for the dependencies of all
pub record HasRooms (shape : Shape) (seekers : List Seeker) (cases : List Case) (case_room : ℕ) (deps : List Dep) (dep_room : ℕ) : Type 0 where
  pub fits : IsShape shape
  pub few : length seekers ≤ 4
  pub no_cases : cases ≡ []
  pub for_cases : 4 ≤ case_room
  pub no_deps : deps ≡ []
  pub for_deps : 80 ≤ dep_room
