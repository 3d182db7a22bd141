-- What the reads of a job tell of its plan, as facts on the trail.
use Rattle.std.specs.Prelude.{◌≡◌, ℕ, Bool, List}
use Rattle.std.specs.List.{AllByRecursion}
use Rattle.hc_board.specs.Fits.{AreOf, ReadsFit}
use Rattle.hc_board.specs.Trail.{Access}
use Rattle.hc_layout.specs.Shape.{words_of}
use Rattle.hc_layout.specs.declared.shape.Shape.{Shape}
use Rattle.hc_heap.specs.Decode.{typed}
use Rattle.hc_heap.specs.Kept.{at}
use Rattle.hc_heap.specs.Lawful.{Lawful}
use Rattle.hc_plan.specs.Deps.{deps_of}
use Rattle.hc_plan.specs.declared.case.Site.{Site}
use Rattle.hc_plan.specs.declared.plan.Plan.{Plan}
use Rattle.hc_question.specs.Told.{IsTold as ReadsTell}
use Rattle.hc_question.specs.declared.outcome.Outcome.TheVariants.{Planned}
use Rattle.hc_soundness.specs.Moments.{IsToldNow, IsSeen}

-- a plan is that of a site, and its dependencies are those of its cases
pub record IsPlanOf (number : ℕ) (what : Site) (plan : Plan) : Type 0 where
  pub site : plan.site ≡ number
  pub op : plan.op ≡ what.op
  pub name : plan.name ≡ what.name
  pub deps : plan.deps ≡ deps_of plan.cases

-- where reads tell a plan, it is that of the site
abbrev pub ToldIsOfSite : Type 0
ToldIsOfSite = (s : Shape) (site : ℕ) (what : Site) (maps : List ℕ) (mega : Bool) (reads : List Access) (plan : Plan) → ReadsTell s site what maps mega reads (Planned plan) → IsPlanOf site what plan

-- where reads of one position of a lawful trail tell a plan, each of its cases is told by the words of that position
abbrev pub ReadsAreTold : Type 0
ReadsAreTold = (s : Shape) (stores : List Access) (position site : ℕ) (what : Site) (maps : List ℕ) (mega : Bool) (reads : List Access) (plan : Plan) → Lawful s (typed s stores)
    → AreOf (words_of s) stores position reads → ReadsTell s site what maps mega reads (Planned plan)
    → AllByRecursion (IsToldNow (at position (typed s stores)) plan.op plan.name) plan.cases

-- where reads that fit a lawful trail from one position to another tell a plan, each of its cases was seen at the later one
abbrev pub ReadsAreSeen : Type 0
ReadsAreSeen = (s : Shape) (stores : List Access) (from upto site : ℕ) (what : Site) (maps : List ℕ) (mega : Bool) (reads : List Access) (plan : Plan) → Lawful s (typed s stores)
    → ReadsFit (words_of s) stores from upto reads → ReadsTell s site what maps mega reads (Planned plan)
    → AllByRecursion (IsSeen s (at upto (typed s stores)) plan.op plan.name) plan.cases
