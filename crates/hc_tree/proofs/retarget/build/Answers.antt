use Rattle.std.proofs.Common.{◌≡◌, ◌∙◌, ◌+◌, ℕ, ap, sym, subst, arith, None, Some}
use Rattle.hc_heap.specs.Readings.{gate_in}
use Rattle.hc_heap.specs.Frames.{goes-none, goes-on}
use Rattle.hc_heap.specs.States.{HeapState, View}
use Rattle.hc_tree.specs.Needs.{HasSpace}
use Rattle.hc_tree.specs.Growth.{child_need}
use Rattle.hc_tree.specs.Walking.{IsBuilt, wanted_at}
use Rattle.hc_tree.proofs.Walked.{built-none, built-later, built-space, built-more, built-wants, may-later}
use Rattle.hc_tree.proofs.retarget.build.Goals as goal

pub loop-k-init : goal.loop-k-init
loop-k-init g c = record {
  built = built-none (wanted_at c.args.h.now.view.trail c.args.map c.args.count c.args.wanted) c.args.h.now.view c.args.base c.args.map c.args.count c.args.n c.stands.ensures.heap c.requires.tree c.requires.open c.requires.live c.requires.keys c.requires.ends;
  goes = goes-none c.args.h.now.desk;
  went = g.met.P.Pace.stays c.args.h.now.pace c.args.h.now.desk.trail;
}

pub wanted_detail-detail-requires-clause-map : goal.wanted_detail-detail-requires-clause-map
wanted_detail-detail-requires-clause-map g c =
    let a = c.args.h.now.view in
    let after = built-later (wanted_at a.trail c.args.map c.args.count c.args.wanted) c.maps_are_kept.ensures.law a c.loop-k.h.view c.args.base c.args.map c.loop-k.at c.args.count c.args.n c.loop-k.k c.stands.ensures.heap c.loop-k.invariant.built (omega arith) in
    after.written.gate c.args.map _ c.requires.map

pub wanted_detail-detail-requires-clause-wanted : goal.wanted_detail-detail-requires-clause-wanted
wanted_detail-detail-requires-clause-wanted g c =
    let a = c.args.h.now.view in
    may-later (wanted_at a.trail c.args.map c.args.count c.args.wanted) c.maps_are_kept.ensures.law a c.loop-k.h.view c.args.base c.args.map c.loop-k.at c.args.count c.args.n c.loop-k.k c.stands.ensures.heap c.loop-k.invariant.built (omega arith)
    c.args.wanted c.requires.map c.loop-k-test.true c.requires.wanted

pub step-at-requires-clause-map : goal.step-at-requires-clause-map
step-at-requires-clause-map g c =
    let a = c.args.h.now.view in
    let read : c.wanted_detail-detail.new.h.view ≡ c.loop-k.h.view = ap (λ (s : HeapState g.row.P.Denot). s.view) c.wanted_detail-detail.ensures.same in
    let after = built-later (wanted_at a.trail c.args.map c.args.count c.args.wanted) c.maps_are_kept.ensures.law a c.loop-k.h.view c.args.base c.args.map c.loop-k.at c.args.count c.args.n c.loop-k.k c.stands.ensures.heap c.loop-k.invariant.built (omega arith) in
    ap (λ (v : View). gate_in v.trail c.args.map) read ∙ after.written.gate c.args.map _ c.requires.map

pub step-at-requires-clause-space : goal.step-at-requires-clause-space
step-at-requires-clause-space g c =
    let a = c.args.h.now.view in
    let read : c.wanted_detail-detail.new.h.view ≡ c.loop-k.h.view = ap (λ (s : HeapState g.row.P.Denot). s.view) c.wanted_detail-detail.ensures.same in
    subst (λ (v : View). HasSpace v (child_need None c.loop-k.k)) (sym read)
    (built-space (wanted_at a.trail c.args.map c.args.count c.args.wanted) c.maps_are_kept.ensures.law a c.loop-k.h.view c.args.base c.args.map c.loop-k.at c.args.count c.args.n c.loop-k.k c.stands.ensures.heap c.loop-k.invariant.built (omega arith) c.loop-k-test.true c.requires.space)

pub loop-k-preserved : goal.loop-k-preserved
loop-k-preserved g c =
    let a = c.args.h.now.view in
    let b = c.loop-k.h.view in
    let d = c.wanted_detail-detail.result in
    let wanted = wanted_at a.trail c.args.map c.args.count c.args.wanted in
    let read : c.wanted_detail-detail.new.h.view ≡ b = ap (λ (s : HeapState g.row.P.Denot). s.view) c.wanted_detail-detail.ensures.same in
    let step : IsBuilt (λ (j : ℕ). Some d) b c.step-at.new.h.view c.loop-k.at c.args.map c.step-at.result c.loop-k.k c.args.n (c.loop-k.k + 1) = subst (λ (v : View). IsBuilt (λ (j : ℕ). Some d) v c.step-at.new.h.view c.loop-k.at c.args.map c.step-at.result c.loop-k.k c.args.n (c.loop-k.k + 1)) read c.step-at.ensures.built in
    let here = built-wants wanted c.maps_are_kept.ensures.law a b c.args.base c.args.map c.loop-k.at c.args.count c.args.n c.loop-k.k c.stands.ensures.heap c.loop-k.invariant.built (omega arith)
    c.unused_says_nothing.ensures.law c.args.wanted c.requires.map c.loop-k-test.true c.requires.wanted in
    record {
      built = built-more wanted c.maps_are_kept.ensures.law a b c.args.base c.args.map c.loop-k.at c.args.count c.args.n c.loop-k.k c.stands.ensures.heap c.loop-k.invariant.built (omega arith)
          c.gates_are_open.ensures.law c.links_are_kept.ensures.law c.unused_says_nothing.ensures.law c.step-at.new.h.view c.step-at.result d (sym here ∙ c.wanted_detail-detail.ensures.value) c.loop-k-test.true step;
      goes = goes-on c.args.h.now.desk c.loop-k.h.desk c.step-at.new.h.desk c.loop-k.invariant.goes (goes-on c.loop-k.h.desk c.wanted_detail-detail.new.h.desk c.step-at.new.h.desk c.wanted_detail-detail.ensures.goes c.step-at.ensures.goes);
      went = g.met.P.Pace.goes_on _ _ _ _ _ _ c.loop-k.invariant.went (g.met.P.Pace.goes_on _ _ _ _ _ _ c.wanted_detail-detail.ensures.went c.step-at.ensures.went);
    }

pub returns-clause-built : goal.returns-clause-built
returns-clause-built g c =
    let same : c.loop-k.k ≡ c.args.n = omega arith in
    let a = c.args.h.now.view in
    subst (λ (x : ℕ). IsBuilt (wanted_at a.trail c.args.map c.args.count c.args.wanted) a c.loop-k.h.view c.args.base c.args.map c.loop-k.at c.args.count c.args.n x) same c.loop-k.invariant.built
