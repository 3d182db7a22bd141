use Rattle.std.proofs.Common.{◌≡◌, Some, ap, sym, ◌∙◌}
use Rattle.hc_heap.specs.Readings.{gate_in}
use Rattle.hc_heap.specs.States.{View, HeapState}
use Rattle.hc_modes.proofs.Shown.{fast-has}
use Rattle.hc_modes.proofs.objects.Objects.fits_own.Goals as goal

pub map_of-map-requires : goal.map_of-map-requires
map_of-map-requires g c = record { fast = fast-has _ _ c.args.p c.self.view_is c.requires.object c.self.invariant c.requires.fast }

pub of_copy-requires : goal.of_copy-requires
of_copy-requires g c =
    let v = c.self.inside.heap.view in
    let read : c.map_of-map.new.h.view ≡ v = ap (λ (s : HeapState g.row.P.Denot). s.view) c.map_of-map.ensures.new in
    let gate : gate_in v.trail c.map_of-map.result ≡ Some c.unwrap-n.result = ap (λ (w : View). gate_in w.trail c.map_of-map.result) (sym read) ∙ sym c.gate.ensures.value ∙ c.unwrap-n.ensures in
    record { few = (c.gates_are_open.ensures.law v.shape v.trail c.map_of-map.result c.unwrap-n.result c.self.invariant.heap.lawful gate).few }
