use Rattle.std.proofs.Common.{◌≡◌, ◌∙◌, Some, ap, sym, subst}
use Rattle.hc_heap.specs.Readings.{gate_in}
use Rattle.hc_heap.specs.States.{HeapState, View}
use Rattle.hc_modes.proofs.Shown.{fast-has}
use Rattle.hc_modes.proofs.objects.Objects.need_to_link.Goals as goal

pub map_of-map-requires : goal.map_of-map-requires
map_of-map-requires g c = record { fast = fast-has _ _ c.args.o c.self.view_is c.requires.object c.self.invariant c.requires.fast }

pub of_copy-requires : goal.of_copy-requires
of_copy-requires g c =
    let read : c.map_of-map.new.h.view ≡ c.self.inside.heap.view = ap (λ (s : HeapState g.row.P.Denot). s.view) c.map_of-map.ensures.new in
    let gate : gate_in c.self.inside.heap.view.trail c.map_of-map.result ≡ Some c.unwrap-n.result = subst (λ (w : View). gate_in w.trail c.map_of-map.result ≡ Some c.unwrap-n.result) read (sym c.gate.ensures.value ∙ c.unwrap-n.ensures) in
    record { few = (c.gates_are_open.ensures.law c.self.inside.heap.view.shape c.self.inside.heap.view.trail c.map_of-map.result c.unwrap-n.result c.self.invariant.heap.lawful gate).few }

pub of_retarget-requires : goal.of_retarget-requires
of_retarget-requires g c =
    let read : c.map_of-map.new.h.view ≡ c.self.inside.heap.view = ap (λ (s : HeapState g.row.P.Denot). s.view) c.map_of-map.ensures.new in
    let gate : gate_in c.self.inside.heap.view.trail c.map_of-map.result ≡ Some c.unwrap-n.result = subst (λ (w : View). gate_in w.trail c.map_of-map.result ≡ Some c.unwrap-n.result) read (sym c.gate.ensures.value ∙ c.unwrap-n.ensures) in
    record { few = (c.gates_are_open.ensures.law c.self.inside.heap.view.shape c.self.inside.heap.view.trail c.map_of-map.result c.unwrap-n.result c.self.invariant.heap.lawful gate).few }
