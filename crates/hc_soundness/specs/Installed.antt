-- Plans that were installed, by the words of the board.
use Rattle.std.specs.Prelude.{ℕ, Bool, Option, List, length}
use Rattle.std.specs.List.{AllByRecursion}
use Rattle.hc_board.specs.Fits.{AreOf, ReadsFit}
use Rattle.hc_board.specs.States.{WriterState}
use Rattle.hc_board.specs.Trail.{Access, image_of}
use Rattle.hc_layout.specs.Shape.{words_of}
use Rattle.hc_heap.specs.Kept.{GoesOn}
use Rattle.hc_heap.specs.States.{View, IsDesk}
use Rattle.hc_heap.specs.Writes.{Trail}
use Rattle.hc_plan.specs.declared.case.Site.{Site}
use Rattle.hc_plan.specs.declared.plan.Plan.{Plan}
use Rattle.hc_question.specs.Told.{IsTold as ReadsTell}
use Rattle.hc_question.specs.declared.outcome.Outcome.TheVariants.{Planned}
use Rattle.hc_deps.specs.Holds.{Holds}
use Rattle.hc_deps.specs.Verdicts.{IsUnbroken}
use Rattle.hc_soundness.specs.Borne.{IsBorne}
use Rattle.hc_facts.specs.Constants.{ConstantsStay}
use Rattle.hc_soundness.specs.Meaning.{Dictionary}
use Rattle.hc_soundness.specs.Rest.{IsRest}

-- each dependency of a plan holds on the board's words
abbrev pub AllHold : View → WriterState → Plan → Type 0
AllHold v d plan = AllByRecursion (Holds v.shape (image_of (words_of v.shape) d.trail)) plan.deps

-- at rest, a plan that reads told, wherever they fit the trail, is borne where each of its dependencies holds on the words
abbrev pub InstalledIsBorne : Type 0
InstalledIsBorne = (v : View) (d : WriterState) (kept : List (Option Dictionary)) (from site : ℕ) (what : Site) (maps : List ℕ) (mega : Bool) (reads : List Access) (plan : Plan)
    → IsRest v kept → IsDesk v d → ReadsFit (words_of v.shape) d.trail from (length d.trail) reads → ReadsTell v.shape site what maps mega reads (Planned plan)
    → AllHold v d plan → IsBorne v.shape v.trail plan

-- at rest, each dependency of a plan holds that reads of this very moment told
abbrev pub ToldAtOnceHolds : Type 0
ToldAtOnceHolds = (v : View) (d : WriterState) (kept : List (Option Dictionary)) (site : ℕ) (what : Site) (maps : List ℕ) (mega : Bool) (reads : List Access) (plan : Plan)
    → IsRest v kept → IsDesk v d → AreOf (words_of v.shape) d.trail (length d.trail) reads → ReadsTell v.shape site what maps mega reads (Planned plan)
    → AllHold v d plan

-- at a later rest, where constants stayed, a plan that was borne and isn't broken on the words is borne, and so is right
abbrev pub UnbrokenIsBorne : Type 0
UnbrokenIsBorne = (old : Trail) (v : View) (d : WriterState) (kept : List (Option Dictionary)) (plan : Plan) → IsRest v kept → IsDesk v d → GoesOn v.shape old v.trail → ConstantsStay old v.trail
    → IsBorne v.shape old plan → IsUnbroken v.shape (image_of (words_of v.shape) d.trail) plan → IsBorne v.shape v.trail plan
