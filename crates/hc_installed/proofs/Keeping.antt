-- The plans of sites stay borne.
use Rattle.std.proofs.Common.{◌≡◌, ℕ, zero, suc, Option, Some, None, List, [], ◌∷◌, refl, sym, ap, subst}
use Rattle.std.specs.Prelude.{IfSome, IsSomeAnd, MatchOption}
use Rattle.hc_board.specs.States.{WriterState, words_of}
use Rattle.hc_board.specs.Trail.{image_of}
use Rattle.hc_layout.specs.Shape.{words_of as width_of}
use Rattle.hc_layout.specs.declared.shape.Shape.{Shape}
use Rattle.hc_heap.specs.Decode.{typed}
use Rattle.hc_heap.specs.Kept.{GoesOn}
use Rattle.hc_heap.specs.Lawful.{Lawful}
use Rattle.hc_heap.specs.States.{IsDesk, IsHeap, View}
use Rattle.hc_heap.specs.Writes.{Trail}
use Rattle.hc_facts.specs.Constants.{ConstantsStay}
use Rattle.hc_plan.specs.declared.case.Site.{Site}
use Rattle.hc_plan.specs.declared.deps.Dep.{Dep}
use Rattle.hc_plan.specs.declared.deps.Dep.TheVariants.{Live, Stable, Rep as HasRep, Const as IsConst, Class as HasClass, Value as HasValue}
use Rattle.hc_plan.specs.declared.plan.Plan.{Plan}
use Rattle.hc_sites.specs.Events.{Event, noted, forgotten, filled, installed, discarded}
use Rattle.hc_sites.specs.State.{after_event}
use Rattle.hc_sites.specs.declared.state.SiteState.{SiteState}
use Rattle.hc_deps.specs.Holds.{Holds, HoldsButValue}
use Rattle.hc_deps.specs.Trails.{HoldsAsTheTrailSays, HoldsIn, HoldsButValueIn}
use Rattle.hc_deps.specs.Verdicts.{IsFirstBroken, IsUnbroken}
use Rattle.hc_soundness.specs.Borne.{IsBorne}
use Rattle.hc_soundness.specs.Breaks.{QuietBreaksNone, breaks}
use Rattle.hc_soundness.specs.Installed.{UnbrokenIsBorne}
use Rattle.hc_soundness.specs.Meaning.{Dictionary}
use Rattle.hc_soundness.specs.Rest.{IsRest}
use Rattle.hc_installed.specs.Discards.{broken_by, unless_broken, unbroken_sites}
use Rattle.hc_installed.specs.Installed.{AreInstalled, HasInstalled, IsInstalled}
use Rattle.hc_installed.specs.Laws.{AreUnbroken, InstallsNone, NewSitesHaveNoPlan, OtherEventsKeepPlans}
use Rattle.hc_installed.proofs.Discarding.{are-unbroken}
use Rattle.hc_installed.proofs.Lists.{all-to, if-both}
use Rattle.hc_installed.proofs.Tests.{breaks-first, broken_at, none-broken}

-- the words of the board, by the shape
pub words-are : (v : View) (d : WriterState) → IsDesk v d → words_of d ≡ image_of (width_of v.shape) d.trail
words-are v d desk = ap (λ (n : ℕ). image_of n d.trail) desk.width

-- From one rest to a later one

module _ (borne_on : UnbrokenIsBorne) (old : Trail) (v : View) (d : WriterState) (kept : List (Option Dictionary)) (rest : IsRest v kept) (desk : IsDesk v d) (goes : GoesOn v.shape old v.trail) (constants : ConstantsStay old v.trail) where
  plan-stays : (what : Site) (plan : Plan) → IsUnbroken v.shape (words_of d) plan → IsInstalled v.shape old what plan → IsInstalled v.shape v.trail what plan
  plan-stays what plan unbroken h = record {
    op = h.op;
    name = h.name;
    borne = borne_on old v d kept plan rest desk goes constants h.borne (subst (λ (words : List ℕ). IsUnbroken v.shape words plan) (words-are v d desk) unbroken);
  }

  site-stays : (state : SiteState) (r : Option Dep)
      → MatchOption r (IfSome state.plan (IsUnbroken v.shape (words_of d))) (λ (dep : Dep). IsSomeAnd state.plan (λ (plan : Plan). IsFirstBroken (HoldsButValue v.shape (words_of d)) plan.deps dep))
      → HasInstalled v.shape old state → HasInstalled v.shape v.trail (unless_broken r state)
  site-stays state None unbroken h =
      if-both (IsUnbroken v.shape (words_of d)) (IsInstalled v.shape old state.site) (IsInstalled v.shape v.trail state.site) state.plan (plan-stays state.site) unbroken h
  site-stays state (Some dep) broken h = tt

  pub sites-stay : (sites : List SiteState) → AreInstalled v.shape old sites → AreInstalled v.shape v.trail (unbroken_sites v.shape (words_of d) sites)
  unfolding unbroken_sites
  sites-stay [] h = tt
  sites-stay (x ∷ xs) h = (site-stays x (broken_by v.shape (words_of d) x) (breaks-first v.shape (words_of d) x) h.0, sites-stay xs h.1)

-- Where nothing was written to bits and details

module _ (says : HoldsAsTheTrailSays) (quiet : QuietBreaksNone) (old : Trail) (v : View) (d : WriterState) (heap : IsHeap v) (desk : IsDesk v d) (goes : GoesOn v.shape old v.trail) (same : breaks v.trail ≡ breaks old) where
  abbrev image : List ℕ
  image = image_of (width_of v.shape) d.trail

  lawful : Lawful v.shape (typed v.shape d.trail)
  lawful = subst (Lawful v.shape) desk.trail heap.lawful

  on-words : (dep : Dep) → HoldsIn v.shape v.trail dep → Holds v.shape image dep
  on-words dep h = (says v.shape d.trail dep lawful).1 (subst (λ (t : Trail). HoldsIn v.shape t dep) desk.trail h)

  but-on-words : (dep : Dep) → HoldsButValueIn v.shape v.trail dep → HoldsButValue v.shape image dep
  but-on-words (Live m) h = on-words (Live m) h
  but-on-words (Stable m) h = on-words (Stable m) h
  but-on-words (HasRep f rep) h = on-words (HasRep f rep) h
  but-on-words (IsConst f) h = on-words (IsConst f) h
  but-on-words (HasClass f class) h = on-words (HasClass f class) h
  but-on-words (HasValue o k w) h = tt

  but-value : (dep : Dep) → HoldsIn v.shape old dep → HoldsButValueIn v.shape old dep
  but-value (Live m) h = h
  but-value (Stable m) h = h
  but-value (HasRep f rep) h = h
  but-value (IsConst f) h = h
  but-value (HasClass f class) h = h
  but-value (HasValue o k w) h = tt

  quiet-plan : (plan : Plan) → IsBorne v.shape old plan → IsUnbroken v.shape image plan
  quiet-plan plan borne =
      all-to (HoldsIn v.shape old) (HoldsButValue v.shape image) (λ dep h. but-on-words dep (quiet v.shape old v.trail dep goes same (but-value dep h))) plan.deps borne.hold

  quiet-in : (what : Site) (plan : Option Plan) → IfSome plan (IsInstalled v.shape old what) → IfSome plan (IsUnbroken v.shape image)
  quiet-in what None h = tt
  quiet-in what (Some plan) h = quiet-plan plan h.borne

  quiet-at : (sites : List SiteState) (i : ℕ) → AreInstalled v.shape old sites → broken_at v.shape image sites i ≡ None
  quiet-at [] i h = refl
  quiet-at (x ∷ xs) zero h = none-broken v.shape image x (quiet-in x.site x.plan h.0)
  quiet-at (x ∷ xs) (suc i) h = quiet-at xs i h.1

  pub quiet-sites : (sites : List SiteState) → AreInstalled v.shape old sites → AreUnbroken v.shape (words_of d) sites
  quiet-sites sites h = subst (λ (words : List ℕ). AreUnbroken v.shape words sites) (sym (words-are v d desk)) (are-unbroken v.shape image sites (λ i. quiet-at sites i h))

-- Events

event-keeps : (s : Shape) (t : Trail) (state : SiteState) (event : Event) → InstallsNone event → HasInstalled s t state → HasInstalled s t (after_event state event)
event-keeps s t state (installed plan) other h = absurd other
event-keeps s t state (noted map) other h = h
event-keeps s t state (forgotten map) other h = h
event-keeps s t state (filled entry) other h = h
event-keeps s t state discarded other h = tt

pub events-keep : OtherEventsKeepPlans
events-keep s t [] site event other h = tt
events-keep s t (x ∷ xs) zero event other h = (event-keeps s t x event other h.0, h.1)
events-keep s t (x ∷ xs) (suc site) event other h = (h.0, events-keep s t xs site event other h.1)

pub new-keeps : NewSitesHaveNoPlan
new-keeps s t [] what h = (tt, tt)
new-keeps s t (x ∷ xs) what h = (h.0, new-keeps s t xs what h.1)
