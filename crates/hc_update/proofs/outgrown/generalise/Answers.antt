use Rattle.std.proofs.Common.{◌≡◌, ◌∙◌, true, false, ap, sym}
use Rattle.hc_heap.specs.Readings.{gate_in}
use Rattle.hc_heap.specs.States.{HeapState, View}
use Rattle.hc_update.proofs.Alone.{gate-is}
use Rattle.hc_update.proofs.outgrown.generalise.Goals as goal

pub generalise_private-requires-clause-map : goal.generalise_private-requires-clause-map
generalise_private-requires-clause-map g c =
    let v = c.args.h.now.view in
    let read : c.gate.new.self.view ≡ v = ap (λ (s : HeapState g.row.P.Denot). s.view) c.gate.ensures.new in
    ap (λ (x : View). gate_in x.trail c.args.map) read ∙ gate-is v.trail c.args.map c.unwrap-gate.result true c.requires.tree (sym c.gate.ensures.value ∙ c.unwrap-gate.ensures) c.if-gate.true

pub generalise_shared-requires-clause-map : goal.generalise_shared-requires-clause-map
generalise_shared-requires-clause-map g c =
    let v = c.args.h.now.view in
    let read : c.gate.new.self.view ≡ v = ap (λ (s : HeapState g.row.P.Denot). s.view) c.gate.ensures.new in
    ap (λ (x : View). gate_in x.trail c.args.map) read ∙ gate-is v.trail c.args.map c.unwrap-gate.result false c.requires.tree (sym c.gate.ensures.value ∙ c.unwrap-gate.ensures) c.if-gate.false
