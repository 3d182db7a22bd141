use Rattle.std.proofs.Common.{◌≡◌, IsSome, ap, sym, ◌∙◌, subst}
use Rattle.hc_heap.specs.Readings.{gate_in, prototype_in}
use Rattle.hc_heap.specs.States.{HeapState}
use Rattle.hc_heap.specs.Writes.{Trail}
use Rattle.hc_slots.specs.Cases.{some-of}
use Rattle.hc_slots.proofs.fast.proto.Goals as goal

pub unwrap-requires : goal.unwrap-requires
unwrap-requires g c =
    let v = c.args.h.now.view in
    let same : c.map_of-map.new.h.view.trail ≡ v.trail = ap (λ (s : HeapState g.row.P.Denot). s.view.trail) c.map_of-map.ensures.new in
    let gate = some-of (gate_in v.trail c.map_of-map.result) c.map_of-map.ensures.open in
    let there = (c.gates_are_open.ensures.law v.shape v.trail c.map_of-map.result gate.0 c.stands.ensures.heap.lawful gate.1).prototype in
    subst IsSome (ap (λ (x : Trail). prototype_in x c.map_of-map.result) (sym same) ∙ sym c.proto.ensures.value) there
