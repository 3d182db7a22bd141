use Rattle.std.proofs.Common.{◌≡◌, ◌<◌, ℕ, false, ◌∙◌, Some, None, length, refl, ap, sym, subst}
use Rattle.hc_modes.specs.Admitting.{AsksLast}
use Rattle.hc_descs.specs.Entries.{entries_in}
use Rattle.hc_modes.specs.Details.{AddKills, AddedGets, DetailsAre, GrownGets, MayStay}
use Rattle.hc_modes.proofs.Gets.{added-gets}
use Rattle.hc_modes.proofs.Facts.{moved-facts}
use Rattle.std.specs.Prelude.{IsSome}
use Rattle.hc_heap.specs.Readings.{bits_in, gate_in, root_in}
use Rattle.hc_heap.specs.Frames.{goes-on}
use Rattle.hc_heap.specs.States.{View, HeapState}
use Rattle.hc_table.specs.Changes.{Added}
use Rattle.hc_layout.specs.declared.capacity.TheConstants.{MAX_FAST}
use Rattle.hc_slots.specs.Cases.{some-is}
use Rattle.hc_table.specs.World.{props_at}
use Rattle.hc_tree.specs.Needs.{HasSpace}
use Rattle.hc_modes.specs.Came.{Steps, world_of}
use Rattle.hc_modes.specs.Meaning.{kept_of}
use Rattle.hc_modes.specs.Modes.{add_need}
use Rattle.hc_modes.specs.State.{IsLive, ObjectsState}
use Rattle.hc_modes.proofs.Adding.{call-ready, call-sound, call-world, call-room, call-needs, call-protos}
use Rattle.hc_modes.proofs.Known.{call-known}
use Rattle.hc_modes.proofs.Shown.{fast-has}
use Rattle.hc_modes.specs.Filling.{GrowthKills, IsMoved}
use Rattle.hc_modes.specs.Rest.{MarksBut}
use Rattle.hc_modes.proofs.Marking.{grown-marks, marks-as}
use Rattle.hc_modes.proofs.objects.Objects.add_fast.Goals as goal

pub map_of-map-requires : goal.map_of-map-requires
map_of-map-requires g c = record { fast = fast-has _ _ c.args.o c.self.view_is c.requires.object c.self.invariant c.requires.fast }

pub unwrap-gate-requires : goal.unwrap-gate-requires
unwrap-gate-requires g c =
    let read : c.map_of-map.new.h.view ≡ c.self.inside.heap.view = ap (λ (s : HeapState g.row.P.Denot). s.view) c.map_of-map.ensures.new in
    subst IsSome (ap (λ (w : View). gate_in w.trail c.map_of-map.result) (sym read) ∙ sym c.gate.ensures.value) c.map_of-map.ensures.open

pub grow_object-requires-clause-few : goal.grow_object-requires-clause-few
grow_object-requires-clause-few g c =
    let read : c.map_of-map.new.h.view ≡ c.self.inside.heap.view = ap (λ (s : HeapState g.row.P.Denot). s.view) c.map_of-map.ensures.new in
    let again : c.gate.new.self.view ≡ c.map_of-map.new.h.view = ap (λ (s : HeapState g.row.P.Denot). s.view) c.gate.ensures.new in
    let gate : gate_in c.map_of-map.new.h.view.trail c.map_of-map.result ≡ Some c.unwrap-gate.result = sym c.gate.ensures.value ∙ c.unwrap-gate.ensures in
    (call-ready _ _ c.args.o c.args.p c.self.view_is c.self.invariant c.requires.object c.requires.fast c.requires.shared c.map_of-map.new.h.view c.gate.new.self.view c.map_of-map.result c.unwrap-gate.result read again c.map_of-map.ensures.map gate c.requires.few c.requires.absent).few

pub grow_object-requires-clause-live : goal.grow_object-requires-clause-live
grow_object-requires-clause-live g c =
    let same : c.gate.new.self.view ≡ c.self.inside.heap.view = ap (λ (s : HeapState g.row.P.Denot). s.view) c.gate.ensures.new ∙ ap (λ (s : HeapState g.row.P.Denot). s.view) c.map_of-map.ensures.new in
    subst (λ (w : View). (bits_in w.trail c.map_of-map.result).deprecated ≡ false) (sym same)
    (subst (λ (s : ObjectsState g.row.P.Denot). IsLive s.heap.view.trail c.args.o) (sym c.self.view_is) c.requires.live c.map_of-map.result c.map_of-map.ensures.map)

pub grow_object-requires-clause-known : goal.grow_object-requires-clause-known
grow_object-requires-clause-known g c =
    let read : c.map_of-map.new.h.view ≡ c.self.inside.heap.view = ap (λ (s : HeapState g.row.P.Denot). s.view) c.map_of-map.ensures.new in
    let again : c.gate.new.self.view ≡ c.map_of-map.new.h.view = ap (λ (s : HeapState g.row.P.Denot). s.view) c.gate.ensures.new in
    let gate : gate_in c.self.inside.heap.view.trail c.map_of-map.result ≡ Some c.unwrap-gate.result = ap (λ (w : View). gate_in w.trail c.map_of-map.result) (sym read) ∙ (sym c.gate.ensures.value ∙ c.unwrap-gate.ensures) in
    call-known _ _ c.args.o c.args.p c.self.view_is c.self.invariant c.requires.object c.requires.fast c.gate.new.self.view c.map_of-map.result c.unwrap-gate.result (again ∙ read) c.map_of-map.ensures.map gate c.args.known c.requires.known

pub grow_object-requires-clause-open : goal.grow_object-requires-clause-open
grow_object-requires-clause-open g c =
    let read : c.map_of-map.new.h.view ≡ c.self.inside.heap.view = ap (λ (s : HeapState g.row.P.Denot). s.view) c.map_of-map.ensures.new in
    let again : c.gate.new.self.view ≡ c.map_of-map.new.h.view = ap (λ (s : HeapState g.row.P.Denot). s.view) c.gate.ensures.new in
    let gate : gate_in c.map_of-map.new.h.view.trail c.map_of-map.result ≡ Some c.unwrap-gate.result = sym c.gate.ensures.value ∙ c.unwrap-gate.ensures in
    (call-ready _ _ c.args.o c.args.p c.self.view_is c.self.invariant c.requires.object c.requires.fast c.requires.shared c.map_of-map.new.h.view c.gate.new.self.view c.map_of-map.result c.unwrap-gate.result read again c.map_of-map.ensures.map gate c.requires.few c.requires.absent).is_open

pub grow_object-requires-clause-holds : goal.grow_object-requires-clause-holds
grow_object-requires-clause-holds g c =
    let read : c.map_of-map.new.h.view ≡ c.self.inside.heap.view = ap (λ (s : HeapState g.row.P.Denot). s.view) c.map_of-map.ensures.new in
    let again : c.gate.new.self.view ≡ c.map_of-map.new.h.view = ap (λ (s : HeapState g.row.P.Denot). s.view) c.gate.ensures.new in
    let gate : gate_in c.map_of-map.new.h.view.trail c.map_of-map.result ≡ Some c.unwrap-gate.result = sym c.gate.ensures.value ∙ c.unwrap-gate.ensures in
    (call-ready _ _ c.args.o c.args.p c.self.view_is c.self.invariant c.requires.object c.requires.fast c.requires.shared c.map_of-map.new.h.view c.gate.new.self.view c.map_of-map.result c.unwrap-gate.result read again c.map_of-map.ensures.map gate c.requires.few c.requires.absent).holds

pub grow_object-requires-clause-lacks : goal.grow_object-requires-clause-lacks
grow_object-requires-clause-lacks g c =
    let read : c.map_of-map.new.h.view ≡ c.self.inside.heap.view = ap (λ (s : HeapState g.row.P.Denot). s.view) c.map_of-map.ensures.new in
    let again : c.gate.new.self.view ≡ c.map_of-map.new.h.view = ap (λ (s : HeapState g.row.P.Denot). s.view) c.gate.ensures.new in
    let gate : gate_in c.map_of-map.new.h.view.trail c.map_of-map.result ≡ Some c.unwrap-gate.result = sym c.gate.ensures.value ∙ c.unwrap-gate.ensures in
    (call-ready _ _ c.args.o c.args.p c.self.view_is c.self.invariant c.requires.object c.requires.fast c.requires.shared c.map_of-map.new.h.view c.gate.new.self.view c.map_of-map.result c.unwrap-gate.result read again c.map_of-map.ensures.map gate c.requires.few c.requires.absent).lacks

pub grow_object-requires-clause-handed : goal.grow_object-requires-clause-handed
grow_object-requires-clause-handed g c =
    let read : c.map_of-map.new.h.view ≡ c.self.inside.heap.view = ap (λ (s : HeapState g.row.P.Denot). s.view) c.map_of-map.ensures.new in
    let again : c.gate.new.self.view ≡ c.map_of-map.new.h.view = ap (λ (s : HeapState g.row.P.Denot). s.view) c.gate.ensures.new in
    let gate : gate_in c.map_of-map.new.h.view.trail c.map_of-map.result ≡ Some c.unwrap-gate.result = sym c.gate.ensures.value ∙ c.unwrap-gate.ensures in
    (call-ready _ _ c.args.o c.args.p c.self.view_is c.self.invariant c.requires.object c.requires.fast c.requires.shared c.map_of-map.new.h.view c.gate.new.self.view c.map_of-map.result c.unwrap-gate.result read again c.map_of-map.ensures.map gate c.requires.few c.requires.absent).handed

pub invariant_of-self : goal.invariant_of-self
invariant_of-self g c =
    let read : c.map_of-map.new.h.view ≡ c.self.inside.heap.view = ap (λ (s : HeapState g.row.P.Denot). s.view) c.map_of-map.ensures.new in
    let again : c.gate.new.self.view ≡ c.map_of-map.new.h.view = ap (λ (s : HeapState g.row.P.Denot). s.view) c.gate.ensures.new in
    let gate : gate_in c.map_of-map.new.h.view.trail c.map_of-map.result ≡ Some c.unwrap-gate.result = sym c.gate.ensures.value ∙ c.unwrap-gate.ensures in
    call-sound _ _ c.args.o c.args.p c.self.view_is c.self.invariant c.requires.object c.requires.fast c.requires.shared c.map_of-map.new.h.view c.gate.new.self.view c.map_of-map.result c.unwrap-gate.result read again c.map_of-map.ensures.map gate c.maps_are_kept.ensures.law c.details_rise.ensures.law c.trees_stay.ensures.law c.unused_says_nothing.ensures.law c.changes_keep.ensures.law c.grow_object.new.h.view c.requires.absent c.requires.proper c.grow_object.result c.grow_object.ensures.moved
    (λ no. ap (λ (s : HeapState g.row.P.Denot). s.view) (c.grow_object.ensures.still no))

pub returns-clause-added : goal.returns-clause-added
returns-clause-added g c = λ yes.
    let read : c.map_of-map.new.h.view ≡ c.self.inside.heap.view = ap (λ (s : HeapState g.row.P.Denot). s.view) c.map_of-map.ensures.new in
    let again : c.gate.new.self.view ≡ c.map_of-map.new.h.view = ap (λ (s : HeapState g.row.P.Denot). s.view) c.gate.ensures.new in
    let gate : gate_in c.map_of-map.new.h.view.trail c.map_of-map.result ≡ Some c.unwrap-gate.result = sym c.gate.ensures.value ∙ c.unwrap-gate.ensures in
    let moved = c.grow_object.ensures.moved yes in
    let after : ObjectsState g.row.P.Denot = record { heap = c.grow_object.new.h; kept = c.self.inside.kept.items; of_null = c.self.inside.of_null } in
    let on = g.met.P.Pace.goes_on in
    subst (λ (s : ObjectsState g.row.P.Denot). Steps g.P.Pace.went s (Added c.args.o c.args.p) after) c.self.view_is (record {
      world = call-world _ _ c.args.o c.args.p c.self.view_is c.self.invariant c.requires.object c.requires.fast c.requires.shared c.map_of-map.new.h.view c.gate.new.self.view c.map_of-map.result c.unwrap-gate.result read again c.map_of-map.ensures.map gate c.maps_are_kept.ensures.law c.details_rise.ensures.law c.trees_stay.ensures.law c.unused_says_nothing.ensures.law c.changes_keep.ensures.law c.grow_object.new.h.view moved;
      shape = moved.changed.shape ∙ ap (λ (w : View). w.shape) (again ∙ read);
      goes = goes-on c.self.inside.heap.desk c.map_of-map.new.h.desk c.grow_object.new.h.desk c.map_of-map.ensures.goes
          (goes-on c.map_of-map.new.h.desk c.gate.new.self.desk c.grow_object.new.h.desk c.gate.ensures.goes c.grow_object.ensures.goes);
      went = on _ _ _ _ _ _ c.map_of-map.ensures.went (on _ _ _ _ _ _ c.gate.ensures.went c.grow_object.ensures.went);
      keeps =
          let v = c.self.inside.heap.view in
          let w = c.grow_object.new.h.view in
          let m = c.map_of-map.result in
          let n = c.unwrap-gate.result.entries in
          moved-facts c.maps_are_kept.ensures.law c.details_rise.ensures.law c.forms_are_kept.ensures.law c.stable_is_kept.ensures.law c.honest_after.ensures.law c.kept_is_carried.ensures.law c.moved_is_carried.ensures.law c.stored_is_given.ensures.law
          v w c.self.inside.kept.items c.self.inside.of_null c.self.invariant c.args.o m n c.unwrap-gate.result c.args.p c.map_of-map.ensures.map (ap (λ (x : View). gate_in x.trail m) (sym read) ∙ gate) refl
          (subst (λ (x : View). IsMoved x w c.args.o m n c.args.p) (again ∙ read) moved) (subst (λ (x : View). AsksLast x.trail w.trail c.args.o n c.args.p) (again ∙ read) (c.grow_object.ensures.asks yes));
    })

pub returns-clause-room : goal.returns-clause-room
returns-clause-room g c =
    let read : c.map_of-map.new.h.view ≡ c.self.inside.heap.view = ap (λ (s : HeapState g.row.P.Denot). s.view) c.map_of-map.ensures.new in
    let again : c.gate.new.self.view ≡ c.map_of-map.new.h.view = ap (λ (s : HeapState g.row.P.Denot). s.view) c.gate.ensures.new in
    let gate : gate_in c.map_of-map.new.h.view.trail c.map_of-map.result ≡ Some c.unwrap-gate.result = sym c.gate.ensures.value ∙ c.unwrap-gate.ensures in
    call-room _ _ c.args.o c.args.p c.self.view_is c.self.invariant c.requires.object c.requires.fast c.requires.shared c.map_of-map.new.h.view c.gate.new.self.view c.map_of-map.result c.unwrap-gate.result read again c.map_of-map.ensures.map gate c.maps_are_kept.ensures.law c.details_rise.ensures.law c.trees_stay.ensures.law c.unused_says_nothing.ensures.law c.changes_keep.ensures.law c.grow_object.new.h.view c.grow_object.result c.grow_object.ensures.room

pub returns-clause-needs : goal.returns-clause-needs
returns-clause-needs g c =
    let read : c.map_of-map.new.h.view ≡ c.self.inside.heap.view = ap (λ (s : HeapState g.row.P.Denot). s.view) c.map_of-map.ensures.new in
    let again : c.gate.new.self.view ≡ c.map_of-map.new.h.view = ap (λ (s : HeapState g.row.P.Denot). s.view) c.gate.ensures.new in
    let gate : gate_in c.map_of-map.new.h.view.trail c.map_of-map.result ≡ Some c.unwrap-gate.result = sym c.gate.ensures.value ∙ c.unwrap-gate.ensures in
    call-needs _ _ c.args.o c.args.p c.self.view_is c.self.invariant c.requires.object c.requires.fast c.requires.shared c.map_of-map.new.h.view c.gate.new.self.view c.map_of-map.result c.unwrap-gate.result read again c.map_of-map.ensures.map gate c.maps_are_kept.ensures.law c.details_rise.ensures.law c.trees_stay.ensures.law c.unused_says_nothing.ensures.law c.changes_keep.ensures.law c.grow_object.new.h.view c.grow_object.result c.grow_object.ensures.used
    (λ no. ap (λ (s : HeapState g.row.P.Denot). s.view) (c.grow_object.ensures.still no))

pub returns-clause-protos : goal.returns-clause-protos
returns-clause-protos g c =
    let read : c.map_of-map.new.h.view ≡ c.self.inside.heap.view = ap (λ (s : HeapState g.row.P.Denot). s.view) c.map_of-map.ensures.new in
    let again : c.gate.new.self.view ≡ c.map_of-map.new.h.view = ap (λ (s : HeapState g.row.P.Denot). s.view) c.gate.ensures.new in
    let gate : gate_in c.map_of-map.new.h.view.trail c.map_of-map.result ≡ Some c.unwrap-gate.result = sym c.gate.ensures.value ∙ c.unwrap-gate.ensures in
    call-protos _ _ c.args.o c.args.p c.self.view_is c.self.invariant c.requires.object c.requires.fast c.requires.shared c.map_of-map.new.h.view c.gate.new.self.view c.map_of-map.result c.unwrap-gate.result read again c.map_of-map.ensures.map gate c.maps_are_kept.ensures.law c.details_rise.ensures.law c.trees_stay.ensures.law c.unused_says_nothing.ensures.law c.changes_keep.ensures.law c.grow_object.new.h.view c.grow_object.result c.grow_object.ensures.moved
    (λ no. ap (λ (s : HeapState g.row.P.Denot). s.view) (c.grow_object.ensures.still no))

pub returns-clause-marks : goal.returns-clause-marks
returns-clause-marks g c = λ yes.
    let v = c.self.inside.heap.view in
    let w = c.grow_object.new.h.view in
    let m = c.map_of-map.result in
    let n = c.unwrap-gate.result.entries in
    let same : c.gate.new.self.view ≡ v = ap (λ (s : HeapState g.row.P.Denot). s.view) c.gate.ensures.new ∙ ap (λ (s : HeapState g.row.P.Denot). s.view) c.map_of-map.ensures.new in
    let shared : (root_in v.trail c.args.o).is_proto ≡ false = subst (λ (s : ObjectsState g.row.P.Denot). (root_in s.heap.view.trail c.args.o).is_proto ≡ false) (sym c.self.view_is) c.requires.shared in
    let space : HasSpace v (add_need v.trail c.args.o c.args.p) = subst (λ (s : ObjectsState g.row.P.Denot). HasSpace s.heap.view (add_need s.heap.view.trail c.args.o c.args.p)) (sym c.self.view_is) ((returns-clause-room g c).0 yes) in
    let stays : MayStay v c.self.inside.kept.items c.args.o c.args.p = record {
      fast = subst (λ (s : ObjectsState g.row.P.Denot). kept_of s.kept c.args.o ≡ None) (sym c.self.view_is) c.requires.fast;
      few = subst (λ (s : ObjectsState g.row.P.Denot). length (props_at (world_of s) c.args.o) < MAX_FAST) (sym c.self.view_is) c.requires.few;
      room = space;
    } in
    subst (λ (s : ObjectsState g.row.P.Denot). MarksBut (AddKills s.heap.view s.kept c.args.o c.args.p) s.heap.view.trail w.trail c.args.o) c.self.view_is
    (marks-as (GrowthKills v.trail m c.args.p) (AddKills v c.self.inside.kept.items c.args.o c.args.p) c.args.o
    (λ x kills. subst (λ (k : ℕ). GrowthKills v.trail k c.args.p x) (some-is kills.map m (sym kills.has ∙ c.map_of-map.ensures.map)) kills.kills)
    (λ x kills. record { stays = stays; shared = shared; map = m; has = c.map_of-map.ensures.map; kills = kills })
    (grown-marks v w c.args.o m n c.args.p c.map_of-map.ensures.map shared (subst (λ (x : View). IsMoved x w c.args.o m n c.args.p) same (c.grow_object.ensures.moved yes))))

pub returns-clause-details : goal.returns-clause-details
returns-clause-details g c = λ yes.
    let v = c.self.inside.heap.view in
    let w = c.grow_object.new.h.view in
    let m = c.map_of-map.result in
    let n = c.unwrap-gate.result.entries in
    let first : c.map_of-map.new.h.view ≡ v = ap (λ (s : HeapState g.row.P.Denot). s.view) c.map_of-map.ensures.new in
    let same : c.gate.new.self.view ≡ v = ap (λ (s : HeapState g.row.P.Denot). s.view) c.gate.ensures.new ∙ first in
    let gate : gate_in v.trail m ≡ Some c.unwrap-gate.result = ap (λ (x : View). gate_in x.trail m) (sym first) ∙ (sym c.gate.ensures.value ∙ c.unwrap-gate.ensures) in
    let proto : (root_in v.trail c.args.o).is_proto ≡ false = subst (λ (s : ObjectsState g.row.P.Denot). (root_in s.heap.view.trail c.args.o).is_proto ≡ false) (sym c.self.view_is) c.requires.shared in
    subst (λ (s : ObjectsState g.row.P.Denot). DetailsAre (AddedGets s.heap.view c.args.o c.args.p) s.heap.view.trail w.trail) c.self.view_is
    (added-gets v w c.args.o m n c.args.p false c.map_of-map.ensures.map (ap entries_in gate) proto
    (subst (λ (x : View). DetailsAre (GrownGets false x.trail x.used m n c.args.p) x.trail w.trail) same (c.grow_object.ensures.details yes)))
