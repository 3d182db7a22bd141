use Rattle.std.proofs.Common.{◌≡◌, ◌∙◌, ℕ, false, refl, Some, ap, sym, subst}
use Rattle.hc_facts.specs.Honest.{IsHonest}
use Rattle.hc_heap.specs.Readings.{gate_in, root_in, store_in}
use Rattle.hc_slots.specs.Slots.{AreHandedOut}
use Rattle.hc_heap.specs.Frames.{goes-on}
use Rattle.hc_heap.specs.States.{View, HeapState}
use Rattle.hc_table.specs.Changes.{Linked}
use Rattle.hc_modes.specs.Came.{Steps}
use Rattle.hc_modes.specs.State.{ObjectsState}
use Rattle.hc_modes.specs.Details.{HasRewalked, IsRewalked}
use Rattle.hc_slots.specs.Cases.{some-is}
use Rattle.hc_modes.proofs.Facts.{resettled-facts}
use Rattle.hc_modes.proofs.Linked.{call-linkable, call-may, call-room, call-world, call-sound, call-needs, call-protos}
use Rattle.hc_modes.proofs.Shown.{fast-has}
use Rattle.hc_modes.specs.Rest.{Relinks}
use Rattle.hc_modes.specs.Linking.{IsRelinked}
use Rattle.hc_modes.proofs.Marking.{shared-relink}
use Rattle.hc_modes.proofs.Relinked.{proto-before}
use Rattle.hc_modes.proofs.objects.Objects.link_shared.Goals as goal

pub map_of-map-requires : goal.map_of-map-requires
map_of-map-requires g c = record { fast = fast-has _ _ c.args.o c.self.view_is c.requires.object c.self.invariant c.requires.fast }

pub link_object-requires-clause-open : goal.link_object-requires-clause-open
link_object-requires-clause-open g c =
    let read : c.map_of-map.new.h.view ≡ c.self.inside.heap.view = ap (λ (s : HeapState g.row.P.Denot). s.view) c.map_of-map.ensures.new in
    let again : c.gate.new.self.view ≡ c.map_of-map.new.h.view = ap (λ (s : HeapState g.row.P.Denot). s.view) c.gate.ensures.new in
    let gate : gate_in c.map_of-map.new.h.view.trail c.map_of-map.result ≡ Some c.unwrap-gate.result = sym c.gate.ensures.value ∙ c.unwrap-gate.ensures in
    (call-linkable _ _ c.args.o c.args.proto c.self.view_is c.self.invariant c.requires.object c.requires.fast c.requires.shared c.map_of-map.new.h.view c.gate.new.self.view c.map_of-map.result c.unwrap-gate.result read again c.map_of-map.ensures.map gate).is_open

pub link_object-requires-clause-holds : goal.link_object-requires-clause-holds
link_object-requires-clause-holds g c =
    let read : c.map_of-map.new.h.view ≡ c.self.inside.heap.view = ap (λ (s : HeapState g.row.P.Denot). s.view) c.map_of-map.ensures.new in
    let again : c.gate.new.self.view ≡ c.map_of-map.new.h.view = ap (λ (s : HeapState g.row.P.Denot). s.view) c.gate.ensures.new in
    let gate : gate_in c.map_of-map.new.h.view.trail c.map_of-map.result ≡ Some c.unwrap-gate.result = sym c.gate.ensures.value ∙ c.unwrap-gate.ensures in
    (call-linkable _ _ c.args.o c.args.proto c.self.view_is c.self.invariant c.requires.object c.requires.fast c.requires.shared c.map_of-map.new.h.view c.gate.new.self.view c.map_of-map.result c.unwrap-gate.result read again c.map_of-map.ensures.map gate).holds

pub link_object-requires-clause-handed : goal.link_object-requires-clause-handed
link_object-requires-clause-handed g c =
    let read : c.map_of-map.new.h.view ≡ c.self.inside.heap.view = ap (λ (s : HeapState g.row.P.Denot). s.view) c.map_of-map.ensures.new in
    let again : c.gate.new.self.view ≡ c.map_of-map.new.h.view = ap (λ (s : HeapState g.row.P.Denot). s.view) c.gate.ensures.new in
    let gate : gate_in c.map_of-map.new.h.view.trail c.map_of-map.result ≡ Some c.unwrap-gate.result = sym c.gate.ensures.value ∙ c.unwrap-gate.ensures in
    (call-linkable _ _ c.args.o c.args.proto c.self.view_is c.self.invariant c.requires.object c.requires.fast c.requires.shared c.map_of-map.new.h.view c.gate.new.self.view c.map_of-map.result c.unwrap-gate.result read again c.map_of-map.ensures.map gate).handed

pub link_object-requires-clause-honest : goal.link_object-requires-clause-honest
link_object-requires-clause-honest g c =
    let same : c.gate.new.self.view ≡ c.self.inside.heap.view = ap (λ (s : HeapState g.row.P.Denot). s.view) c.gate.ensures.new ∙ ap (λ (s : HeapState g.row.P.Denot). s.view) c.map_of-map.ensures.new in
    subst (λ (w : View). IsHonest w.trail) (sym same) (subst (λ (s : ObjectsState g.row.P.Denot). IsHonest s.heap.view.trail) (sym c.self.view_is) c.requires.honest)

pub link_object-requires-clause-out : goal.link_object-requires-clause-out
link_object-requires-clause-out g c =
    let same : c.gate.new.self.view ≡ c.self.inside.heap.view = ap (λ (s : HeapState g.row.P.Denot). s.view) c.gate.ensures.new ∙ ap (λ (s : HeapState g.row.P.Denot). s.view) c.map_of-map.ensures.new in
    subst (λ (w : View). AreHandedOut w.used.slots (store_in w.trail c.args.o)) (sym same) (c.self.invariant.stores c.args.o)

pub link_object-requires-clause-proto : goal.link_object-requires-clause-proto
link_object-requires-clause-proto g c =
    let read : c.map_of-map.new.h.view ≡ c.self.inside.heap.view = ap (λ (s : HeapState g.row.P.Denot). s.view) c.map_of-map.ensures.new in
    let again : c.gate.new.self.view ≡ c.map_of-map.new.h.view = ap (λ (s : HeapState g.row.P.Denot). s.view) c.gate.ensures.new in
    let gate : gate_in c.map_of-map.new.h.view.trail c.map_of-map.result ≡ Some c.unwrap-gate.result = sym c.gate.ensures.value ∙ c.unwrap-gate.ensures in
    call-may _ _ c.args.o c.args.proto c.self.view_is c.self.invariant c.requires.object c.requires.fast c.requires.shared c.map_of-map.new.h.view c.gate.new.self.view c.map_of-map.result c.unwrap-gate.result read again c.map_of-map.ensures.map gate c.requires.there c.requires.named

pub invariant_of-self : goal.invariant_of-self
invariant_of-self g c =
    let read : c.map_of-map.new.h.view ≡ c.self.inside.heap.view = ap (λ (s : HeapState g.row.P.Denot). s.view) c.map_of-map.ensures.new in
    let again : c.gate.new.self.view ≡ c.map_of-map.new.h.view = ap (λ (s : HeapState g.row.P.Denot). s.view) c.gate.ensures.new in
    let gate : gate_in c.map_of-map.new.h.view.trail c.map_of-map.result ≡ Some c.unwrap-gate.result = sym c.gate.ensures.value ∙ c.unwrap-gate.ensures in
    call-sound _ _ c.args.o c.args.proto c.self.view_is c.self.invariant c.requires.object c.requires.fast c.requires.shared c.map_of-map.new.h.view c.gate.new.self.view c.map_of-map.result c.unwrap-gate.result read again c.map_of-map.ensures.map gate c.maps_are_kept.ensures.law c.details_rise.ensures.law c.changes_keep.ensures.law c.link_object.new.h.view c.link_object.new.of_null c.requires.there c.requires.no_cycle c.link_object.result c.link_object.ensures.relinked
    (λ no. ap (λ (s : HeapState g.row.P.Denot). s.view) (c.link_object.ensures.still no)) c.link_object.ensures.null

pub returns-clause-linked : goal.returns-clause-linked
returns-clause-linked g c = λ yes.
    let read : c.map_of-map.new.h.view ≡ c.self.inside.heap.view = ap (λ (s : HeapState g.row.P.Denot). s.view) c.map_of-map.ensures.new in
    let again : c.gate.new.self.view ≡ c.map_of-map.new.h.view = ap (λ (s : HeapState g.row.P.Denot). s.view) c.gate.ensures.new in
    let gate : gate_in c.map_of-map.new.h.view.trail c.map_of-map.result ≡ Some c.unwrap-gate.result = sym c.gate.ensures.value ∙ c.unwrap-gate.ensures in
    let moved = c.link_object.ensures.relinked yes in
    let after : ObjectsState g.row.P.Denot = record { heap = c.link_object.new.h; kept = c.self.inside.kept.items; of_null = c.link_object.new.of_null } in
    let on = g.met.P.Pace.goes_on in
    subst (λ (s : ObjectsState g.row.P.Denot). Steps g.P.Pace.went s (Linked c.args.o c.args.proto) after) c.self.view_is (record {
      world = call-world _ _ c.args.o c.args.proto c.self.view_is c.self.invariant c.requires.object c.requires.fast c.requires.shared c.map_of-map.new.h.view c.gate.new.self.view c.map_of-map.result c.unwrap-gate.result read again c.map_of-map.ensures.map gate c.maps_are_kept.ensures.law c.details_rise.ensures.law c.changes_keep.ensures.law c.link_object.new.h.view c.link_object.new.of_null moved;
      shape = moved.changed.shape ∙ ap (λ (w : View). w.shape) (again ∙ read);
      goes = goes-on c.self.inside.heap.desk c.map_of-map.new.h.desk c.link_object.new.h.desk c.map_of-map.ensures.goes
          (goes-on c.map_of-map.new.h.desk c.gate.new.self.desk c.link_object.new.h.desk c.gate.ensures.goes c.link_object.ensures.goes);
      went = on _ _ _ _ _ _ c.map_of-map.ensures.went (on _ _ _ _ _ _ c.gate.ensures.went c.link_object.ensures.went);
      keeps =
          let v = c.self.inside.heap.view in
          let w = c.link_object.new.h.view in
          let m = c.map_of-map.result in
          let n = c.unwrap-gate.result.entries in
          let it : IsRelinked v w c.self.inside.of_null c.link_object.new.of_null c.args.o m n c.args.proto = subst (λ (x : View). IsRelinked x w c.self.inside.of_null c.link_object.new.of_null c.args.o m n c.args.proto) (again ∙ read) moved in
          resettled-facts c.maps_are_kept.ensures.law c.details_rise.ensures.law c.forms_are_kept.ensures.law c.stable_is_kept.ensures.law c.honest_after.ensures.law c.kept_is_carried.ensures.law c.moved_is_carried.ensures.law
          v w c.self.inside.kept.items c.self.inside.of_null c.self.invariant c.args.o m n c.unwrap-gate.result c.map_of-map.ensures.map (ap (λ (x : View). gate_in x.trail m) (sym read) ∙ gate) refl it.map false c.args.proto it.changed it.unstable it.resettled;
    })

pub returns-clause-room : goal.returns-clause-room
returns-clause-room g c =
    let read : c.map_of-map.new.h.view ≡ c.self.inside.heap.view = ap (λ (s : HeapState g.row.P.Denot). s.view) c.map_of-map.ensures.new in
    let again : c.gate.new.self.view ≡ c.map_of-map.new.h.view = ap (λ (s : HeapState g.row.P.Denot). s.view) c.gate.ensures.new in
    let gate : gate_in c.map_of-map.new.h.view.trail c.map_of-map.result ≡ Some c.unwrap-gate.result = sym c.gate.ensures.value ∙ c.unwrap-gate.ensures in
    call-room _ _ c.args.o c.args.proto c.self.view_is c.self.invariant c.requires.object c.requires.fast c.requires.shared c.map_of-map.new.h.view c.gate.new.self.view c.map_of-map.result c.unwrap-gate.result read again c.map_of-map.ensures.map gate c.link_object.result c.link_object.ensures.room

pub returns-clause-needs : goal.returns-clause-needs
returns-clause-needs g c =
    let read : c.map_of-map.new.h.view ≡ c.self.inside.heap.view = ap (λ (s : HeapState g.row.P.Denot). s.view) c.map_of-map.ensures.new in
    let again : c.gate.new.self.view ≡ c.map_of-map.new.h.view = ap (λ (s : HeapState g.row.P.Denot). s.view) c.gate.ensures.new in
    let gate : gate_in c.map_of-map.new.h.view.trail c.map_of-map.result ≡ Some c.unwrap-gate.result = sym c.gate.ensures.value ∙ c.unwrap-gate.ensures in
    call-needs _ _ c.args.o c.args.proto c.self.view_is c.self.invariant c.requires.object c.requires.fast c.requires.shared c.map_of-map.new.h.view c.gate.new.self.view c.map_of-map.result c.unwrap-gate.result read again c.map_of-map.ensures.map gate c.maps_are_kept.ensures.law c.details_rise.ensures.law c.changes_keep.ensures.law c.link_object.new.h.view c.link_object.new.of_null c.link_object.result c.link_object.ensures.relinked
    (λ no. ap (λ (s : HeapState g.row.P.Denot). s.view) (c.link_object.ensures.still no))

pub returns-clause-protos : goal.returns-clause-protos
returns-clause-protos g c =
    let read : c.map_of-map.new.h.view ≡ c.self.inside.heap.view = ap (λ (s : HeapState g.row.P.Denot). s.view) c.map_of-map.ensures.new in
    let again : c.gate.new.self.view ≡ c.map_of-map.new.h.view = ap (λ (s : HeapState g.row.P.Denot). s.view) c.gate.ensures.new in
    let gate : gate_in c.map_of-map.new.h.view.trail c.map_of-map.result ≡ Some c.unwrap-gate.result = sym c.gate.ensures.value ∙ c.unwrap-gate.ensures in
    call-protos _ _ c.args.o c.args.proto c.self.view_is c.self.invariant c.requires.object c.requires.fast c.requires.shared c.map_of-map.new.h.view c.gate.new.self.view c.map_of-map.result c.unwrap-gate.result read again c.map_of-map.ensures.map gate c.maps_are_kept.ensures.law c.details_rise.ensures.law c.changes_keep.ensures.law c.link_object.new.h.view c.link_object.new.of_null c.link_object.result c.link_object.ensures.relinked
    (λ no. ap (λ (s : HeapState g.row.P.Denot). s.view) (c.link_object.ensures.still no))

pub returns-clause-relinks : goal.returns-clause-relinks
returns-clause-relinks g c = λ yes.
    let v = c.self.inside.heap.view in
    let w = c.link_object.new.h.view in
    let m = c.map_of-map.result in
    let n = c.unwrap-gate.result.entries in
    let same : c.gate.new.self.view ≡ v = ap (λ (s : HeapState g.row.P.Denot). s.view) c.gate.ensures.new ∙ ap (λ (s : HeapState g.row.P.Denot). s.view) c.map_of-map.ensures.new in
    let shared : (root_in v.trail c.args.o).is_proto ≡ false = subst (λ (s : ObjectsState g.row.P.Denot). (root_in s.heap.view.trail c.args.o).is_proto ≡ false) (sym c.self.view_is) c.requires.shared in
    let gate : gate_in v.trail m ≡ Some c.unwrap-gate.result = ap (λ (x : View). gate_in x.trail m) (sym (ap (λ (s : HeapState g.row.P.Denot). s.view) c.map_of-map.ensures.new)) ∙ sym c.gate.ensures.value ∙ c.unwrap-gate.ensures in
    let it : IsRelinked v w c.self.inside.of_null c.link_object.new.of_null c.args.o m n c.args.proto = subst (λ (x : View). IsRelinked x w c.self.inside.of_null c.link_object.new.of_null c.args.o m n c.args.proto) same (c.link_object.ensures.relinked yes) in
    subst (λ (s : ObjectsState g.row.P.Denot). Relinks s.heap.view.trail w.trail c.args.o c.args.proto) c.self.view_is
    (shared-relink v w c.self.inside.of_null c.link_object.new.of_null c.args.o m n c.args.proto c.map_of-map.ensures.map shared
    (λ k is named. proto-before c.maps_are_kept.ensures.law c.details_rise.ensures.law c.gates_are_open.ensures.law v w c.args.o m k c.args.proto c.unwrap-gate.result c.self.invariant.heap gate it.changed is named) it)

pub returns-clause-details : goal.returns-clause-details
returns-clause-details g c = λ yes.
    let v = c.self.inside.heap.view in
    let w = c.link_object.new.h.view in
    let m = c.map_of-map.result in
    let same : c.gate.new.self.view ≡ v = ap (λ (s : HeapState g.row.P.Denot). s.view) c.gate.ensures.new ∙ ap (λ (s : HeapState g.row.P.Denot). s.view) c.map_of-map.ensures.new in
    let it : IsRewalked v c.self.inside.of_null m c.args.proto w.trail = subst (λ (x : View). IsRewalked x c.self.inside.of_null m c.args.proto w.trail) same (c.link_object.ensures.details yes) in
    subst (λ (s : ObjectsState g.row.P.Denot). HasRewalked s.heap.view s.of_null c.args.o c.args.proto w.trail) c.self.view_is
    (λ k is. subst (λ (x : ℕ). IsRewalked v c.self.inside.of_null x c.args.proto w.trail) (some-is m k (sym c.map_of-map.ensures.map ∙ is)) it)
