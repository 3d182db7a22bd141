-- Plans whose dependencies hold on the words of the board.
use Rattle.std.proofs.Common.{◌≡◌, ℕ, ◌-◌, Bool, Option, List, length, drop, sym, ap, ◌∙◌, subst, arith}
use Rattle.std.specs.List.{AllByRecursion}
use Rattle.hc_board.specs.Fits.{AreOf, ReadsFit}
use Rattle.hc_board.specs.States.{WriterState}
use Rattle.hc_board.specs.Trail.{Access, image_of}
use Rattle.hc_layout.specs.Shape.{words_of}
use Rattle.hc_heap.specs.Decode.{typed}
use Rattle.hc_heap.specs.Kept.{at as position_at, GoesOn, StoresAreWrites}
use Rattle.hc_heap.specs.Lawful.{Lawful}
use Rattle.hc_heap.specs.States.{View, IsDesk}
use Rattle.hc_heap.specs.Writes.{Trail}
use Rattle.hc_plan.specs.declared.case.Site.{Site}
use Rattle.hc_plan.specs.declared.deps.Dep.{Dep}
use Rattle.hc_plan.specs.declared.deps.Dep.TheVariants.{Live, Stable, Rep as HasRep, Const as IsConst, Class as HasClass, Value as HasValue}
use Rattle.hc_plan.specs.declared.plan.Plan.{Plan}
use Rattle.hc_question.specs.Told.{IsTold as ReadsTell}
use Rattle.hc_question.specs.declared.outcome.Outcome.TheVariants.{Planned}
use Rattle.hc_deps.specs.Holds.{Holds, HoldsButValue}
use Rattle.hc_deps.specs.Trails.{HoldsIn, HoldsButValueIn, HoldsAsTheTrailSays}
use Rattle.hc_deps.specs.Verdicts.{IsUnbroken}
use Rattle.hc_soundness.specs.Borne.{IsBorne}
use Rattle.hc_facts.specs.Constants.{ConstantsStay}
use Rattle.hc_soundness.specs.Installed.{AllHold}
use Rattle.hc_soundness.specs.Laws.{BorneIsKept, SeenIsBorne, ToldIsBorne}
use Rattle.hc_soundness.specs.Meaning.{Dictionary}
use Rattle.hc_soundness.specs.Moments.{IsToldNow, IsSeen}
use Rattle.hc_soundness.specs.Reads.{ReadsAreSeen, ReadsAreTold, ToldIsOfSite}
use Rattle.hc_soundness.specs.Rest.{IsRest}
use Rattle.hc_soundness.proofs.Lists.{all-to}

module _ (says : HoldsAsTheTrailSays) (are : StoresAreWrites) (v : View) (d : WriterState) (kept : List (Option Dictionary)) (rest : IsRest v kept) (desk : IsDesk v d) where
  abbrev words : List ℕ
  words = image_of (words_of v.shape) d.trail

  lawful : Lawful v.shape (typed v.shape d.trail)
  lawful = subst (Lawful v.shape) desk.trail rest.heap.lawful

  at-end : position_at (length d.trail) (typed v.shape d.trail) ≡ v.trail
  at-end =
      let same : length (typed v.shape d.trail) ≡ length d.trail = are v.shape d.trail in
      let none : length (typed v.shape d.trail) - length d.trail ≡ 0 = omega arith in
      ap (λ (n : ℕ). drop n (typed v.shape d.trail)) none ∙ sym desk.trail

  holds-in : (dep : Dep) → Holds v.shape words dep → HoldsIn v.shape v.trail dep
  holds-in dep h = subst (λ (t : Trail). HoldsIn v.shape t dep) (sym desk.trail) ((says v.shape d.trail dep lawful).0 h)

  holds-on : (dep : Dep) → HoldsIn v.shape v.trail dep → Holds v.shape words dep
  holds-on dep h = (says v.shape d.trail dep lawful).1 (subst (λ (t : Trail). HoldsIn v.shape t dep) desk.trail h)

  but-in : (dep : Dep) → HoldsButValue v.shape words dep → HoldsButValueIn v.shape v.trail dep
  but-in (Live m) h = holds-in (Live m) h
  but-in (Stable m) h = holds-in (Stable m) h
  but-in (HasRep f rep) h = holds-in (HasRep f rep) h
  but-in (IsConst f) h = holds-in (IsConst f) h
  but-in (HasClass f class) h = holds-in (HasClass f class) h
  but-in (HasValue o k w) h = h

  module _ (site : ℕ) (what : Site) (maps : List ℕ) (mega : Bool) (reads : List Access) (plan : Plan) (of_site : ToldIsOfSite) (told : ReadsTell v.shape site what maps mega reads (Planned plan)) where
    pub installed-borne : ReadsAreSeen → SeenIsBorne → (from : ℕ) → ReadsFit (words_of v.shape) d.trail from (length d.trail) reads → AllHold v d plan → IsBorne v.shape v.trail plan
    installed-borne reads_seen seen_borne from fits hold =
        seen_borne v kept plan rest (of_site v.shape site what maps mega reads plan told).deps
        (subst (λ (t : Trail). AllByRecursion (IsSeen v.shape t plan.op plan.name) plan.cases) at-end
        (reads_seen v.shape d.trail from (length d.trail) site what maps mega reads plan lawful fits told))
        (all-to (Holds v.shape words) (HoldsIn v.shape v.trail) holds-in plan.deps hold)

    pub told-all-hold : ReadsAreTold → ToldIsBorne → AreOf (words_of v.shape) d.trail (length d.trail) reads → AllHold v d plan
    told-all-hold reads_told told_borne are_of =
        let borne = told_borne v kept plan rest (of_site v.shape site what maps mega reads plan told).deps
        (subst (λ (t : Trail). AllByRecursion (IsToldNow t plan.op plan.name) plan.cases) at-end
        (reads_told v.shape d.trail (length d.trail) site what maps mega reads plan lawful are_of told)) in
        all-to (HoldsIn v.shape v.trail) (Holds v.shape words) holds-on plan.deps borne.hold

  pub unbroken-borne : BorneIsKept → (old : Trail) (plan : Plan) → GoesOn v.shape old v.trail → ConstantsStay old v.trail → IsBorne v.shape old plan → IsUnbroken v.shape words plan → IsBorne v.shape v.trail plan
  unbroken-borne borne_kept old plan goes constants h unbroken =
      borne_kept old v kept plan rest goes constants h (all-to (HoldsButValue v.shape words) (HoldsButValueIn v.shape v.trail) but-in plan.deps unbroken)
