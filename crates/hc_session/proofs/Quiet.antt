-- Where a count of stores stayed, nothing was stored.
use Rattle.std.proofs.Common.{◌≡◌, ℕ, ◌+◌, ◌-◌, ◌^◌, ◌<◌, List, [], ◌∷◌, ◌++◌, length, append-nil, length-append, refl, sym, ap, ◌∙◌, subst, arith}
use Rattle.hc_board.specs.States.{counted, words_of}
use Rattle.hc_board.specs.Trail.{Access}
use Rattle.hc_heap.specs.Decode.{typed}
use Rattle.hc_heap.specs.Kept.{GoesOn}
use Rattle.hc_heap.specs.States.{Extends, IsDesk, IsHeap}
use Rattle.hc_heap.specs.Writes.{Trail}
use Rattle.hc_installed.specs.Installed.{AreInstalled}
use Rattle.hc_installed.specs.Laws.{AreUnbroken, PlansStayInstalled, QuietBreaksNoPlan}
use Rattle.hc_layout.specs.declared.shape.Shape.{Shape}
use Rattle.hc_modes.specs.Admitting.{FactsStay}
use Rattle.hc_modes.specs.Rest.{AreCalm}
use Rattle.hc_modes.specs.State.{IsObjects, ObjectsState}
use Rattle.hc_objects.specs.Came.{IsStill}
use Rattle.hc_soundness.specs.Laws.{ObjectsRest}
use Rattle.hc_session.specs.Plans.{sites_left}
use Rattle.hc_sites.specs.declared.state.SiteState.{SiteState}
use Rattle.hc_soundness.specs.Breaks.{breaks}

-- the count stands still at the end of its type
pub same-stores : (old new : List Access) → Extends old new → counted (length old) ≡ counted (length new) → counted (length old) < 2 ^ 64 - 1 → new ≡ old
same-stores old new more same below = by more.more more.is
  where
    by : (xs : List Access) → new ≡ old ++ xs → new ≡ old
    by [] is = is ∙ append-nil old
    by (x ∷ xs) is =
        let long : length new ≡ length old + length (x ∷ xs) = ap (λ (ys : List Access). length ys) is ∙ length-append old (x ∷ xs) in
        absurd (omega (arith, long, same, below))

-- so no plan is broken
pub quiet-since : {P : Type 0} (law : QuietBreaksNoPlan) (a b : ObjectsState P) (sites : List SiteState) (before : ℕ) → Extends a.heap.desk.trail b.heap.desk.trail → b.heap.view.shape ≡ a.heap.view.shape → GoesOn a.heap.view.shape a.heap.view.trail b.heap.view.trail
    → IsDesk a.heap.view a.heap.desk → IsDesk b.heap.view b.heap.desk → IsHeap b.heap.view → AreInstalled a.heap.view.shape a.heap.view.trail sites
    → before ≡ counted (length a.heap.desk.trail) → before ≡ counted (length b.heap.desk.trail) → before < 2 ^ 64 - 1 → AreUnbroken b.heap.view.shape (words_of b.heap.desk) sites
quiet-since {P} law a b sites before more shape goes desk desk_now heap borne first second below =
    let stores : b.heap.desk.trail ≡ a.heap.desk.trail = same-stores a.heap.desk.trail b.heap.desk.trail more (sym first ∙ second) (omega (arith, first, below)) in
    let trails : b.heap.view.trail ≡ a.heap.view.trail =
    desk_now.trail ∙ (ap (λ (s : Shape). typed s b.heap.desk.trail) shape ∙ (ap (λ (xs : List Access). typed a.heap.view.shape xs) stores ∙ sym desk.trail)) in
    law a.heap.view.trail b.heap.view b.heap.desk sites heap desk_now (subst (λ (s : Shape). GoesOn s a.heap.view.trail b.heap.view.trail) (sym shape) goes) (ap (λ (t : Trail). breaks t) trails)
    (subst (λ (s : Shape). AreInstalled s a.heap.view.trail sites) (sym shape) borne)

-- the plans that are left at a command's end are borne
pub installed-left : {P : Type 0} (law : PlansStayInstalled) (rest : ObjectsRest) (a mid new : ObjectsState P) (sites now : List SiteState) → mid.heap.view.shape ≡ a.heap.view.shape → FactsStay a.heap.view.shape a.heap.view.trail mid.heap.view.trail → IsObjects mid.heap.view mid.kept mid.of_null → IsDesk mid.heap.view mid.heap.desk → AreCalm mid.heap.view.trail
    → AreInstalled a.heap.view.shape a.heap.view.trail sites → IsStill mid new → now ≡ sites_left mid sites → AreInstalled new.heap.view.shape new.heap.view.trail now
installed-left {P} law rest a mid new sites now shape facts sound desk calm borne still is =
    subst (λ (xs : List SiteState). AreInstalled new.heap.view.shape new.heap.view.trail xs) (sym is)
    (subst (λ (s : ObjectsState P). AreInstalled s.heap.view.shape s.heap.view.trail (sites_left mid sites)) (sym still.is)
    (law a.heap.view.trail mid.heap.view mid.heap.desk mid.kept sites (rest mid.heap.view mid.kept mid.of_null sound calm) desk
    (subst (λ (s : Shape). GoesOn s a.heap.view.trail mid.heap.view.trail) (sym shape) facts.goes) facts.constants (subst (λ (s : Shape). AreInstalled s a.heap.view.trail sites) (sym shape) borne)))
