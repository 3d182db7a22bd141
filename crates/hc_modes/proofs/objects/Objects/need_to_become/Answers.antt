use Rattle.std.proofs.Common.{◌≡◌, ◌∙◌, ◌<◌, None, Some, length, ap, sym, subst}
use Rattle.hc_heap.specs.Readings.{gate_in}
use Rattle.hc_heap.specs.States.{HeapState, View}
use Rattle.hc_modes.specs.Came.{world_of}
use Rattle.hc_modes.specs.Meaning.{kept_of}
use Rattle.hc_modes.specs.State.{ObjectsState}
use Rattle.hc_modes.proofs.Shown.{fast-has}
use Rattle.hc_modes.proofs.objects.Objects.need_to_become.Goals as goal

pub map_of-map-requires : goal.map_of-map-requires
map_of-map-requires g c =
    let still = c.is_proto.ensures.still in
    record {
      fast = fast-has _ _ c.args.p c.self.view_is
          (subst (λ (s : ObjectsState g.row.P.Denot). c.args.p < length (world_of s)) (sym still.is) c.requires.object) c.self.invariant
          (subst (λ (s : ObjectsState g.row.P.Denot). kept_of s.kept c.args.p ≡ None) (sym still.is) (c.is_slow.ensures.fast c.if-is_slow.false));
    }

pub of_copy-requires : goal.of_copy-requires
of_copy-requires g c =
    let read : c.map_of-map.new.h.view ≡ c.self.inside.heap.view = ap (λ (s : HeapState g.row.P.Denot). s.view) c.map_of-map.ensures.new in
    let gate : gate_in c.self.inside.heap.view.trail c.map_of-map.result ≡ Some c.unwrap-n.result = subst (λ (w : View). gate_in w.trail c.map_of-map.result ≡ Some c.unwrap-n.result) read (sym c.gate.ensures.value ∙ c.unwrap-n.ensures) in
    record { few = (c.gates_are_open.ensures.law c.self.inside.heap.view.shape c.self.inside.heap.view.trail c.map_of-map.result c.unwrap-n.result c.self.invariant.heap.lawful gate).few }
