use Rattle.std.proofs.Common.{◌≡◌, ◌<◌, ℕ, List, None, length, take, get_or, ap, ◌∙◌, arith}
use Rattle.std.specs.Prelude.{Option}
use Rattle.std.proofs.lemmas.List.{take_all}
use Rattle.hc_heap.specs.Writes.{Trail}
use Rattle.hc_modes.specs.Laws.{still-on}
use Rattle.hc_modes.specs.State.{ObjectsState}
use Rattle.hc_sites.specs.declared.state.SiteState.{SiteState}
use Rattle.hc_access.specs.Accesses.{with_events}
use Rattle.hc_access.specs.Notes.{forgets_at, maps_at}
use Rattle.hc_access.proofs.Noting.{events-length, forgets_in, has-maps, in-places, loads-on, place-on}
use Rattle.hc_access.proofs.notes.forget_dead.Goals as goal

pub forget_at-requires : goal.forget_at-requires
forget_at-requires g c = record {
  there = omega (arith, c.requires.there, ap (length {A = SiteState}) c.loop-place.invariant.0, events-length c.args.sites.now c.args.s (forgets_in c.args.objects.now.heap.view.trail (take c.loop-place.place-index c.feedback.result.maps)));
}

pub loop-place-preserved : goal.loop-place-preserved
loop-place-preserved g c =
    let a = c.args.objects.now in
    let x = c.loop-place.objects in
    let inv = c.loop-place.invariant in
    let trail : x.heap.view.trail ≡ a.heap.view.trail = ap (λ (s : ObjectsState _). s.heap.view.trail) inv.1.is in
    let has = has-maps c.args.sites.now c.args.s c.feedback.result c.feedback.ensures.value c.feedback.ensures.maps in
    let within : c.loop-place.place-index < length c.feedback.result.maps = omega (arith, c.loop-place-test.true, ap (length {A = Option ℕ}) has.are) in (
      c.forget_at.ensures.sites
          ∙ (ap (λ (t : Trail). with_events c.loop-place.sites c.args.s (forgets_at t (get_or c.feedback.result.maps c.loop-place.place-index None))) trail
          ∙ (ap (λ (xs : List SiteState). with_events xs c.args.s (forgets_at a.heap.view.trail (get_or c.feedback.result.maps c.loop-place.place-index None))) inv.0
          ∙ place-on a.heap.view.trail c.args.sites.now c.args.s c.feedback.result.maps c.loop-place.place-index None within)),
      still-on a x c.forget_at.new.objects inv.1 c.forget_at.ensures.still,
      loads-on c.loop-place.place-index 1 a.heap.desk x.heap.desk c.forget_at.new.objects.heap.desk inv.2 c.forget_at.ensures.loads,
    )

pub returns-clause-sites : goal.returns-clause-sites
returns-clause-sites g c =
    let has = has-maps c.args.sites.now c.args.s c.feedback.result c.feedback.ensures.value c.feedback.ensures.maps in
    let all : c.loop-place.place-index ≡ 4 = omega (arith, c.loop-place-test.false, c.loop-place.auto.place-index-end) in
    c.loop-place.invariant.0
    ∙ (ap (λ (at : List (Option ℕ)). with_events c.args.sites.now c.args.s (forgets_in c.args.objects.now.heap.view.trail at))
    (take_all c.loop-place.place-index c.feedback.result.maps (omega (arith, all, ap (length {A = Option ℕ}) has.are)) ∙ has.are)
    ∙ ap (with_events c.args.sites.now c.args.s) (in-places c.args.objects.now.heap.view.trail (maps_at c.args.sites.now c.args.s) has.few))
