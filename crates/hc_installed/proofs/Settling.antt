-- Outcomes that reads told, and the plans of sites.
use Rattle.std.proofs.Common.{◌≡◌, ℕ, zero, suc, Option, List, [], ◌∷◌, length, sym, ap, ◌∙◌, subst, arith}
use Rattle.std.specs.Prelude.{IsSomeAnd, slice_get}
use Rattle.std.specs.List.{AllByRecursion}
use Rattle.hc_board.specs.Fits.{AreOf, ReadsFit}
use Rattle.hc_board.specs.Laws.{EntryFitsAsOne}
use Rattle.hc_board.specs.Parts.{EntryFits, MetEntry, reads_of, start_of}
use Rattle.hc_board.specs.States.{WriterState, words_of}
use Rattle.hc_board.specs.Trail.{Access}
use Rattle.hc_layout.specs.declared.shape.Shape.{Shape}
use Rattle.hc_heap.specs.Decode.{typed}
use Rattle.hc_heap.specs.Kept.{at as position_at}
use Rattle.hc_heap.specs.Lawful.{Lawful}
use Rattle.hc_heap.specs.States.{IsDesk, IsHeap, View}
use Rattle.hc_heap.specs.Writes.{Trail}
use Rattle.hc_plan.specs.declared.case.Site.{Site}
use Rattle.hc_plan.specs.declared.deps.Dep.{Dep}
use Rattle.hc_plan.specs.declared.plan.Plan.{Plan}
use Rattle.hc_question.specs.declared.outcome.Outcome.{Outcome}
use Rattle.hc_question.specs.declared.outcome.Outcome.TheVariants.{Planned, NoPlan}
use Rattle.hc_sites.specs.Events.{installed}
use Rattle.hc_sites.specs.State.{with_event}
use Rattle.hc_sites.specs.declared.state.SiteState.{SiteState}
use Rattle.hc_deps.specs.Holds.{Holds}
use Rattle.hc_deps.specs.Trails.{HoldsIn}
use Rattle.hc_deps.specs.Verdicts.{IsVerdict, sites_after}
use Rattle.hc_deps.specs.declared.verdict.Verdict.{Verdict}
use Rattle.hc_deps.specs.declared.verdict.Verdict.TheVariants.{Installed, Refused, NoPlan as NoVerdict}
use Rattle.hc_soundness.specs.Installed.{AllHold, InstalledIsBorne, ToldAtOnceHolds}
use Rattle.hc_soundness.specs.Laws.{ToldIsBorne}
use Rattle.hc_soundness.specs.Meaning.{Dictionary}
use Rattle.hc_soundness.specs.Moments.{IsToldNow}
use Rattle.hc_soundness.specs.Reads.{ReadsAreTold, ToldIsOfSite}
use Rattle.hc_soundness.specs.Rest.{IsRest}
use Rattle.hc_installed.specs.Installed.{AreInstalled, AreResting, IsInstalled}
use Rattle.hc_installed.specs.Laws.{IsOutcomeOf}
use Rattle.hc_installed.specs.Settles.{IsNotRefused}
use Rattle.hc_installed.proofs.Keeping.{words-are}
use Rattle.hc_installed.proofs.Lists.{all-middle}

-- a plan that is installed at its site
install-at : (s : Shape) (t : Trail) (sites : List SiteState) (site : ℕ) (what : Site) (plan : Plan) → IsInstalled s t what plan → IsSomeAnd (slice_get sites site) (λ (state : SiteState). state.site ≡ what)
    → AreInstalled s t sites → AreInstalled s t (with_event sites site (installed plan))
install-at s t [] site what plan p is h = absurd is
install-at s t (x ∷ xs) zero what plan p is h = (subst (λ (w : Site). IsInstalled s t w plan) (sym is) p, h.1)
install-at s t (x ∷ xs) (suc site) what plan p is h = (h.0, install-at s t xs site what plan p is h.1)

module _ (v : View) (d : WriterState) (kept : List (Option Dictionary)) (rest : IsRest v kept) (desk : IsDesk v d) where
  held-all : (plan : Plan) → AllByRecursion (Holds v.shape (words_of d)) plan.deps → AllHold v d plan
  held-all plan h = subst (λ (words : List ℕ). AllByRecursion (Holds v.shape words) plan.deps) (words-are v d desk) h

  all-held : (plan : Plan) → AllHold v d plan → AllByRecursion (Holds v.shape (words_of d)) plan.deps
  all-held plan h = subst (λ (words : List ℕ). AllByRecursion (Holds v.shape words) plan.deps) (sym (words-are v d desk)) h

  module _ (site : ℕ) (what : Site) where
    outcome-stays : InstalledIsBorne → ToldIsOfSite → EntryFitsAsOne → (sites : List SiteState) (entry : MetEntry) (outcome : Outcome) (verdict : Verdict)
        → EntryFits d.board.words d.trail entry → IsOutcomeOf v d site what (reads_of entry) outcome → IsSomeAnd (slice_get sites site) (λ (state : SiteState). state.site ≡ what)
        → IsVerdict v.shape (words_of d) outcome verdict → AreInstalled v.shape v.trail sites → AreInstalled v.shape v.trail (sites_after sites site outcome verdict)
    outcome-stays borne of_site as_one sites entry (Planned plan) Installed fits told is verdict h =
        let it = of_site v.shape site what told.maps told.mega (reads_of entry) plan told.told in
        let whole = as_one d.board.words d.trail entry 0 (omega arith) fits in
        install-at v.shape v.trail sites site what plan (record {
          op = it.op;
          name = it.name;
          borne = borne v d kept (start_of entry 0) site what told.maps told.mega (reads_of entry) plan rest desk
              (subst (λ (n : ℕ). ReadsFit n d.trail (start_of entry 0) (length d.trail) (reads_of entry)) desk.width whole) told.told (held-all plan verdict);
        }) is h
    outcome-stays borne of_site as_one sites entry (Planned plan) (Refused dep) fits told is verdict h = h
    outcome-stays borne of_site as_one sites entry (Planned plan) (NoVerdict why) fits told is verdict h = absurd verdict
    outcome-stays borne of_site as_one sites entry (NoPlan why) Installed fits told is verdict h = absurd verdict
    outcome-stays borne of_site as_one sites entry (NoPlan why) (Refused dep) fits told is verdict h = absurd verdict
    outcome-stays borne of_site as_one sites entry (NoPlan why) (NoVerdict same) fits told is verdict h = h

    prompt : ToldAtOnceHolds → (reads : List Access) (outcome : Outcome) (verdict : Verdict) → AreOf d.board.words d.trail (length d.trail) reads → IsOutcomeOf v d site what reads outcome
        → IsVerdict v.shape (words_of d) outcome verdict → IsNotRefused verdict
    prompt at_once reads outcome Installed are told verdict = tt
    prompt at_once reads outcome (NoVerdict why) are told verdict = tt
    prompt at_once reads (NoPlan why) (Refused dep) are told verdict = absurd verdict
    prompt at_once reads (Planned plan) (Refused dep) are told verdict =
        let all = at_once v d kept site what told.maps told.mega reads plan rest desk (subst (λ (n : ℕ). AreOf n d.trail (length d.trail) reads) desk.width are) told.told in
        let held = subst (AllByRecursion (Holds v.shape (words_of d))) verdict.are (all-held plan all) in
        absurd (verdict.broken (all-middle (Holds v.shape (words_of d)) verdict.before verdict.after dep held))

pub outcome-installed : InstalledIsBorne → ToldIsOfSite → EntryFitsAsOne → (v : View) (d : WriterState) (kept : List (Option Dictionary)) (sites : List SiteState) (site : ℕ) (what : Site) (entry : MetEntry) (outcome : Outcome) (verdict : Verdict) → IsRest v kept → IsDesk v d
    → EntryFits d.board.words d.trail entry → IsOutcomeOf v d site what (reads_of entry) outcome → IsSomeAnd (slice_get sites site) (λ (state : SiteState). state.site ≡ what)
    → IsVerdict v.shape (words_of d) outcome verdict → AreInstalled v.shape v.trail sites → AreInstalled v.shape v.trail (sites_after sites site outcome verdict)
outcome-installed borne of_site as_one v d kept sites site what entry outcome verdict rest desk fits told is says h =
    outcome-stays v d kept rest desk site what borne of_site as_one sites entry outcome verdict fits told is says h

pub prompt-holds : ToldAtOnceHolds → (v : View) (d : WriterState) (kept : List (Option Dictionary)) (site : ℕ) (what : Site) (reads : List Access) (outcome : Outcome) (verdict : Verdict) → IsRest v kept → IsDesk v d
    → AreOf d.board.words d.trail (length d.trail) reads → IsOutcomeOf v d site what reads outcome → IsVerdict v.shape (words_of d) outcome verdict → IsNotRefused verdict
prompt-holds at_once v d kept site what reads outcome verdict rest desk are told says = prompt v d kept rest desk site what at_once reads outcome verdict are told says

-- what a plan was refused for held at the rest of its reads
module _ (of_site : ToldIsOfSite) (reads_told : ReadsAreTold) (told_borne : ToldIsBorne) (v : View) (d : WriterState) (heap : IsHeap v) (desk : IsDesk v d) (start site : ℕ) (what : Site) (reads : List Access) where
  plan-held : (plan : Plan) (resting : AreResting v d start reads) → IsOutcomeOf v d site what reads (Planned plan) → AllByRecursion (HoldsIn v.shape (position_at resting.position v.trail)) plan.deps
  plan-held plan resting told =
      let was = resting.rest in
      let it = of_site v.shape site what told.maps told.mega reads plan told.told in
      let lawful : Lawful v.shape (typed v.shape d.trail) = subst (Lawful v.shape) desk.trail heap.lawful in
      let cases = reads_told v.shape d.trail resting.position site what told.maps told.mega reads plan lawful (subst (λ (n : ℕ). AreOf n d.trail resting.position reads) desk.width resting.are) told.told in
      let same : position_at resting.position (typed v.shape d.trail) ≡ was.earlier.trail = ap (position_at resting.position) (sym desk.trail) ∙ sym was.trail in
      let borne = told_borne was.earlier was.kept plan was.rest it.deps (subst (λ (t : Trail). AllByRecursion (IsToldNow t plan.op plan.name) plan.cases) same cases) in
      subst (λ (t : Trail). AllByRecursion (HoldsIn v.shape t) plan.deps) was.trail
      (subst (λ (s : Shape). AllByRecursion (HoldsIn s was.earlier.trail) plan.deps) was.shape borne.hold)

  pub had-held : (outcome : Outcome) (dep : Dep) (resting : AreResting v d start reads) → IsOutcomeOf v d site what reads outcome → IsVerdict v.shape (words_of d) outcome (Refused dep) → HoldsIn v.shape (position_at resting.position v.trail) dep
  had-held (NoPlan why) dep resting told verdict = absurd verdict
  had-held (Planned plan) dep resting told verdict =
      all-middle (HoldsIn v.shape (position_at resting.position v.trail)) verdict.before verdict.after dep
      (subst (AllByRecursion (HoldsIn v.shape (position_at resting.position v.trail))) verdict.are (plan-held plan resting told))
