use Rattle.std.proofs.Common.{◌≡◌, ◌∙◌, ◌<◌, ◌≤◌, ap, sym, subst, arith, Option, Some}
use Rattle.std.specs.Prelude.{IsSomeAnd, IsTrue}
use Rattle.hc_layout.specs.declared.words.GateWord.{GateWord}
use Rattle.hc_value.specs.declared.field.Detail.{Detail}
use Rattle.hc_heap.specs.Readings.{gate_in}
use Rattle.hc_heap.specs.Frames.{goes-none, goes-on}
use Rattle.hc_heap.specs.States.{HeapState, View}
use Rattle.hc_descs.specs.Entries.{field_at}
use Rattle.hc_fields.specs.Fields.{raised}
use Rattle.hc_tree.specs.Details.{detail_at, joined_with, joins_in_place}
use Rattle.hc_tree.proofs.Joins.{Raised, gates-same, raised-field}
use Rattle.hc_tree.proofs.Joined.{joined-none, joined-more}
use Rattle.hc_tree.proofs.retarget.admit_all.Goals as goal

pub loop-k-init : goal.loop-k-init
loop-k-init g c = record {
  joined = joined-none c.args.h.now.view c.args.end c.args.map c.args.stop c.args.count c.args.n c.stands.ensures.heap c.requires.tree;
  goes = goes-none c.args.h.now.desk;
  went = g.met.P.Pace.stays c.args.h.now.pace c.args.h.now.desk.trail;
}

pub detail_at-detail-requires : goal.detail_at-detail-requires
detail_at-detail-requires g c =
    let below : c.loop-k.k < c.args.stop = c.loop-k-test.true in
    let upto : c.args.stop ≤ c.args.count = c.requires.upto in
    let lt : c.loop-k.k < c.args.count = omega (arith, below, upto) in
    let within = c.requires.within in
    record { entry = subst (λ (o : Option GateWord). IsSomeAnd o (λ x. c.loop-k.k < x.entries)) (sym (gates-same c.args.h.now.view.trail c.loop-k.h.view.trail c.loop-k.invariant.joined.only c.args.map ∙ c.requires.map)) (omega (arith, lt, within)) }

pub admit-requires-clause-entry : goal.admit-requires-clause-entry
admit-requires-clause-entry g c =
    let below : c.loop-k.k < c.args.stop = c.loop-k-test.true in
    let upto : c.args.stop ≤ c.args.count = c.requires.upto in
    let lt : c.loop-k.k < c.args.count = omega (arith, below, upto) in
    let read : c.detail_at-detail.new.h.view ≡ c.loop-k.h.view = ap (λ (s : HeapState g.row.P.Denot). s.view) c.detail_at-detail.ensures.same in
    subst (λ (w : View). IsSomeAnd (gate_in w.trail c.args.end) (λ x. c.loop-k.k < x.entries)) (sym read)
    (subst (λ (o : Option GateWord). IsSomeAnd o (λ x. c.loop-k.k < x.entries)) (sym (gates-same c.args.h.now.view.trail c.loop-k.h.view.trail c.loop-k.invariant.joined.only c.args.end ∙ c.requires.end)) lt)

pub admit-requires-clause-fits : goal.admit-requires-clause-fits
admit-requires-clause-fits g c =
    let a = c.args.h.now.view in
    let b = c.loop-k.h.view in
    let end = c.args.end in
    let m = c.args.map in
    let k = c.loop-k.k in
    let d = c.detail_at-detail.result in
    let below : k < c.args.stop = c.loop-k-test.true in
    let upto : c.args.stop ≤ c.args.count = c.requires.upto in
    let within : c.args.count ≤ c.args.n = c.requires.within in
    let read : c.detail_at-detail.new.h.view ≡ b = ap (λ (s : HeapState g.row.P.Denot). s.view) c.detail_at-detail.ensures.same in
    let it = c.loop-k.invariant.joined in
    subst (λ (w : View). IsTrue (joins_in_place (detail_at w.trail end k) (Some d))) (sym read)
    (ap (λ (o : Option Detail). joins_in_place o (Some d)) (it.rest k (omega arith) (omega (arith, below, upto)))
    ∙ ap (λ (o : Option Detail). joins_in_place (detail_at a.trail end k) o) (sym c.detail_at-detail.ensures.value ∙ it.others k (omega arith) (omega (arith, below, upto, within)))
    ∙ c.requires.fits k below)

pub loop-k-preserved : goal.loop-k-preserved
loop-k-preserved g c =
    let a = c.args.h.now.view in
    let b = c.loop-k.h.view in
    let w = c.admit.new.h.view in
    let end = c.args.end in
    let k = c.loop-k.k in
    let d = c.detail_at-detail.result in
    let read : c.detail_at-detail.new.h.view ≡ b = ap (λ (s : HeapState g.row.P.Denot). s.view) c.detail_at-detail.ensures.same in
    let up : Raised b w end k d = raised-field b w end k d (subst (λ (x : View). IsSomeAnd (field_at x.trail end k) (λ f. w ≡ record x { trail = raised x.trail f d })) read c.admit.ensures.view) in
    let joins = subst (λ (x : View). detail_at w.trail end k ≡ Some (joined_with (detail_at x.trail end k) d)) read c.admit.ensures.joined in
    let on = g.met.P.Pace.goes_on in
    record {
      joined = joined-more c.maps_are_kept.ensures.law a b w end c.args.map c.args.stop c.args.count c.args.n k d c.stands.ensures.heap c.requires.end c.requires.map c.requires.within c.requires.upto c.loop-k-test.true
          c.loop-k.invariant.joined up c.detail_at-detail.ensures.value joins c.admit.ensures.tree c.admit.ensures.heap;
      goes = goes-on c.args.h.now.desk c.loop-k.h.desk c.admit.new.h.desk c.loop-k.invariant.goes (goes-on c.loop-k.h.desk c.detail_at-detail.new.h.desk c.admit.new.h.desk c.detail_at-detail.ensures.goes c.admit.ensures.goes);
      went = on _ _ _ _ _ _ c.loop-k.invariant.went (on _ _ _ _ _ _ c.detail_at-detail.ensures.went c.admit.ensures.went);
    }
