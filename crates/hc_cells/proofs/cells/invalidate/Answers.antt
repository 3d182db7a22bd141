use Rattle.std.proofs.Common.{◌≡◌, ◌<◌, IfSome, refl, ap, sym, subst, rules, arith}
use Rattle.hc_heap.specs.Readings.{validity_in}
use Rattle.hc_heap.specs.Frames.{goes-on}
use Rattle.hc_heap.specs.States.{View}
use Rattle.hc_cells.specs.Cells.{AreCells}
use Rattle.hc_cells.proofs.Invalid.{AreAsked, all-after, asked-more, asked-none, cells-after, ends-now, there-now}
use Rattle.hc_cells.proofs.cells.invalidate.Goals as goal

pub loop-cell-init : goal.loop-cell-init
loop-cell-init g c = record {
  view = search rules;
  asked = asked-none c.args.h.now.view.trail c.args.protos.now c.args.object c.args.h.now.desk.loads;
  heap = search rules;
  goes = search rules;
  went = search rules;
}

pub invalidate_one-requires-clause-ends : goal.invalidate_one-requires-clause-ends
invalidate_one-requires-clause-ends g c =
    let h = c.args.h.now in
    ends-now h.view.trail c.args.protos.now c.args.object c.loop-cell.h.view.trail c.loop-cell.cell h.desk.loads c.loop-cell.h.desk.loads c.loop-cell.invariant.asked
    h.view refl c.requires.cells c.requires.items c.requires.ends

pub invalidate_one-requires-clause-there : goal.invalidate_one-requires-clause-there
invalidate_one-requires-clause-there g c =
    let h = c.args.h.now in
    let shape = ap (λ (v : View). v.shape.objects) c.loop-cell.invariant.view in
    subst (λ n. IfSome (validity_in c.loop-cell.h.view.trail c.loop-cell.cell) (λ cell. cell.object < n)) (sym shape)
    (there-now h.view.trail c.args.protos.now c.args.object c.loop-cell.h.view.trail c.loop-cell.cell h.desk.loads c.loop-cell.h.desk.loads c.loop-cell.invariant.asked
    h.view c.stands.ensures.heap c.requires.cells)

pub loop-cell-preserved : goal.loop-cell-preserved
loop-cell-preserved g c =
    let h = c.args.h.now in
    let n = c.loop-cell.h in
    let x = c.invalidate_one.new.h in
    let i = c.loop-cell.invariant in
    record {
      view = search rules;
      asked = asked-more h.view.trail c.args.protos.now c.args.object n.view.trail c.loop-cell.cell h.desk.loads n.desk.loads i.asked
          x.view.trail x.desk.loads c.invalidate_one.ensures.writes c.invalidate_one.ensures.cell c.invalidate_one.ensures.others c.invalidate_one.ensures.loads;
      heap = c.invalidate_one.ensures.heap;
      goes = goes-on h.desk n.desk x.desk i.goes c.invalidate_one.ensures.goes;
      went = g.met.P.Pace.goes_on h.pace n.pace x.pace h.desk.trail n.desk.trail x.desk.trail i.went c.invalidate_one.ensures.went;
    }

pub returns-clause-after : goal.returns-clause-after
returns-clause-after g c =
    let v = c.args.h.now.view in
    let n = c.loop-cell.h in
    let count : c.loop-cell.cell ≡ v.used.cells = omega (arith, c.used-cell-end.ensures) in
    all-after v.trail c.args.protos.now c.args.object v refl n.view.trail c.args.h.now.desk.loads n.desk.loads
    (subst (λ k. AreAsked v.trail c.args.protos.now c.args.object n.view.trail k c.args.h.now.desk.loads n.desk.loads) count c.loop-cell.invariant.asked)
    c.unused_says_nothing.ensures.law c.stands.ensures.heap.used

pub returns-clause-cells : goal.returns-clause-cells
returns-clause-cells g c =
    let v = c.args.h.now.view in
    let n = c.loop-cell.h in
    let count : c.loop-cell.cell ≡ v.used.cells = omega (arith, c.used-cell-end.ensures) in
    let used = ap (λ (w : View). w.used) c.loop-cell.invariant.view in
    subst (λ u. AreCells n.view.trail u) (sym used)
    (cells-after v.trail c.args.protos.now c.args.object v refl n.view.trail c.args.h.now.desk.loads n.desk.loads
    (subst (λ k. AreAsked v.trail c.args.protos.now c.args.object n.view.trail k c.args.h.now.desk.loads n.desk.loads) count c.loop-cell.invariant.asked)
    (returns-clause-after g c) c.requires.cells)
