-- The plans that sites have, and earlier moments at which the objects were at rest.
use Rattle.std.specs.Prelude.{◌≡◌, ℕ, ◌≤◌, Option, IfSome, List, length}
use Rattle.std.specs.List.{AllByRecursion}
use Rattle.hc_board.specs.Fits.{AreOf}
use Rattle.hc_board.specs.States.{WriterState}
use Rattle.hc_board.specs.Trail.{Access}
use Rattle.hc_layout.specs.declared.shape.Shape.{Shape}
use Rattle.hc_heap.specs.Kept.{at}
use Rattle.hc_heap.specs.States.{View}
use Rattle.hc_heap.specs.Writes.{Trail}
use Rattle.hc_plan.specs.declared.case.Site.{Site}
use Rattle.hc_plan.specs.declared.plan.Plan.{Plan}
use Rattle.hc_sites.specs.declared.state.SiteState.{SiteState}
use Rattle.hc_soundness.specs.Borne.{IsBorne}
use Rattle.hc_soundness.specs.Meaning.{Dictionary}
use Rattle.hc_soundness.specs.Rest.{IsRest}

-- a plan is for what its site does, and the words bear it
pub record IsInstalled (s : Shape) (t : Trail) (what : Site) (plan : Plan) : Type 0 where
  pub op : plan.op ≡ what.op
  pub name : plan.name ≡ what.name
  pub borne : IsBorne s t plan

-- so is the plan of a site, where it has one
abbrev pub HasInstalled : Shape → Trail → SiteState → Type 0
HasInstalled s t state = IfSome state.plan (IsInstalled s t state.site)

-- and that of each of these sites
abbrev pub AreInstalled : Shape → Trail → List SiteState → Type 0
AreInstalled s t sites = AllByRecursion (HasInstalled s t) sites

-- the objects were at rest at a position, with the words of the writes so far
pub record WasAtRest (v : View) (position : ℕ) : Type 0 where
  pub earlier : View
  pub kept : List (Option Dictionary)
  pub shape : earlier.shape ≡ v.shape
  pub trail : earlier.trail ≡ at position v.trail
  pub rest : IsRest earlier kept

-- these reads are words of one position, not before a start, at which the objects were at rest
pub record AreResting (v : View) (d : WriterState) (start : ℕ) (reads : List Access) : Type 0 where
  pub position : ℕ
  pub since : start ≤ position
  pub upto : position ≤ length d.trail
  pub are : AreOf d.board.words d.trail position reads
  pub rest : WasAtRest v position
