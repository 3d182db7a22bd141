use Rattle.std.specs.Prelude.{IsTrue}
use Rattle.std.proofs.Common.{◌≡◌, ◌∙◌, Some, true, true≢false, refl, ap, sym, subst}
use Rattle.hc_descs.specs.Entries.{entries_in}
use Rattle.hc_modes.specs.Details.{AddKills, AddedGets, DetailsAre, GrownGets}
use Rattle.hc_modes.proofs.Gets.{added-gets}
use Rattle.hc_modes.proofs.Facts.{alone-facts}
use Rattle.hc_heap.specs.Readings.{gate_in, root_in}
use Rattle.hc_heap.specs.Frames.{goes-on}
use Rattle.hc_heap.specs.States.{View, HeapState}
use Rattle.hc_table.specs.Changes.{Added}
use Rattle.hc_modes.specs.Came.{Steps}
use Rattle.hc_modes.specs.State.{ObjectsState}
use Rattle.hc_modes.proofs.AddingAlone.{call-alone-sound, call-alone-world, call-may-take}
use Rattle.hc_modes.proofs.Linking.{call-owner}
use Rattle.hc_modes.proofs.Shown.{fast-has}
use Rattle.hc_modes.specs.Privates.{IsGrownAlone}
use Rattle.hc_modes.specs.Rest.{MarksBut}
use Rattle.hc_modes.proofs.Marking.{alone-marks, marks-none}
use Rattle.hc_modes.proofs.objects.Objects.add_private.Goals as goal

pub map_of-map-requires : goal.map_of-map-requires
map_of-map-requires g c = record { fast = fast-has _ _ c.args.o c.self.view_is c.requires.object c.self.invariant c.requires.fast }

pub grow_alone-requires-clause-open : goal.grow_alone-requires-clause-open
grow_alone-requires-clause-open g c =
    let read : c.map_of-map.new.h.view ≡ c.self.inside.heap.view = ap (λ (s : HeapState g.row.P.Denot). s.view) c.map_of-map.ensures.new in
    let again : c.gate.new.self.view ≡ c.map_of-map.new.h.view = ap (λ (s : HeapState g.row.P.Denot). s.view) c.gate.ensures.new in
    let gate : gate_in c.map_of-map.new.h.view.trail c.map_of-map.result ≡ Some c.unwrap-gate.result = sym c.gate.ensures.value ∙ c.unwrap-gate.ensures in
    (call-owner _ _ c.args.o c.self.view_is c.self.invariant c.requires.object c.requires.fast c.requires.private c.map_of-map.new.h.view c.gate.new.self.view c.map_of-map.result c.unwrap-gate.result read again c.map_of-map.ensures.map gate).is_open

pub grow_alone-requires-clause-holds : goal.grow_alone-requires-clause-holds
grow_alone-requires-clause-holds g c =
    let read : c.map_of-map.new.h.view ≡ c.self.inside.heap.view = ap (λ (s : HeapState g.row.P.Denot). s.view) c.map_of-map.ensures.new in
    let again : c.gate.new.self.view ≡ c.map_of-map.new.h.view = ap (λ (s : HeapState g.row.P.Denot). s.view) c.gate.ensures.new in
    let gate : gate_in c.map_of-map.new.h.view.trail c.map_of-map.result ≡ Some c.unwrap-gate.result = sym c.gate.ensures.value ∙ c.unwrap-gate.ensures in
    (call-owner _ _ c.args.o c.self.view_is c.self.invariant c.requires.object c.requires.fast c.requires.private c.map_of-map.new.h.view c.gate.new.self.view c.map_of-map.result c.unwrap-gate.result read again c.map_of-map.ensures.map gate).holds

pub grow_alone-requires-clause-handed : goal.grow_alone-requires-clause-handed
grow_alone-requires-clause-handed g c =
    let read : c.map_of-map.new.h.view ≡ c.self.inside.heap.view = ap (λ (s : HeapState g.row.P.Denot). s.view) c.map_of-map.ensures.new in
    let again : c.gate.new.self.view ≡ c.map_of-map.new.h.view = ap (λ (s : HeapState g.row.P.Denot). s.view) c.gate.ensures.new in
    let gate : gate_in c.map_of-map.new.h.view.trail c.map_of-map.result ≡ Some c.unwrap-gate.result = sym c.gate.ensures.value ∙ c.unwrap-gate.ensures in
    (call-owner _ _ c.args.o c.self.view_is c.self.invariant c.requires.object c.requires.fast c.requires.private c.map_of-map.new.h.view c.gate.new.self.view c.map_of-map.result c.unwrap-gate.result read again c.map_of-map.ensures.map gate).handed

pub grow_alone-requires-clause-few : goal.grow_alone-requires-clause-few
grow_alone-requires-clause-few g c =
    let read : c.map_of-map.new.h.view ≡ c.self.inside.heap.view = ap (λ (s : HeapState g.row.P.Denot). s.view) c.map_of-map.ensures.new in
    let again : c.gate.new.self.view ≡ c.map_of-map.new.h.view = ap (λ (s : HeapState g.row.P.Denot). s.view) c.gate.ensures.new in
    let gate : gate_in c.map_of-map.new.h.view.trail c.map_of-map.result ≡ Some c.unwrap-gate.result = sym c.gate.ensures.value ∙ c.unwrap-gate.ensures in
    (call-may-take _ _ c.args.o c.self.view_is c.self.invariant c.requires.object c.requires.fast c.requires.private c.map_of-map.new.h.view c.gate.new.self.view c.map_of-map.result c.unwrap-gate.result read again c.map_of-map.ensures.map gate c.args.p c.requires.few c.requires.absent).few

pub grow_alone-requires-clause-lacks : goal.grow_alone-requires-clause-lacks
grow_alone-requires-clause-lacks g c =
    let read : c.map_of-map.new.h.view ≡ c.self.inside.heap.view = ap (λ (s : HeapState g.row.P.Denot). s.view) c.map_of-map.ensures.new in
    let again : c.gate.new.self.view ≡ c.map_of-map.new.h.view = ap (λ (s : HeapState g.row.P.Denot). s.view) c.gate.ensures.new in
    let gate : gate_in c.map_of-map.new.h.view.trail c.map_of-map.result ≡ Some c.unwrap-gate.result = sym c.gate.ensures.value ∙ c.unwrap-gate.ensures in
    (call-may-take _ _ c.args.o c.self.view_is c.self.invariant c.requires.object c.requires.fast c.requires.private c.map_of-map.new.h.view c.gate.new.self.view c.map_of-map.result c.unwrap-gate.result read again c.map_of-map.ensures.map gate c.args.p c.requires.few c.requires.absent).lacks

pub invariant_of-self : goal.invariant_of-self
invariant_of-self g c =
    let read : c.map_of-map.new.h.view ≡ c.self.inside.heap.view = ap (λ (s : HeapState g.row.P.Denot). s.view) c.map_of-map.ensures.new in
    let again : c.gate.new.self.view ≡ c.map_of-map.new.h.view = ap (λ (s : HeapState g.row.P.Denot). s.view) c.gate.ensures.new in
    let gate : gate_in c.map_of-map.new.h.view.trail c.map_of-map.result ≡ Some c.unwrap-gate.result = sym c.gate.ensures.value ∙ c.unwrap-gate.ensures in
    call-alone-sound _ _ c.args.o c.self.view_is c.self.invariant c.requires.object c.requires.fast c.requires.private c.map_of-map.new.h.view c.gate.new.self.view c.map_of-map.result c.unwrap-gate.result read again c.map_of-map.ensures.map gate c.args.p c.maps_are_kept.ensures.law c.details_rise.ensures.law c.trees_stay.ensures.law c.unused_says_nothing.ensures.law c.grow_alone.new.h.view c.changes_keep.ensures.law c.requires.absent c.requires.proper c.grow_alone.result c.grow_alone.ensures.grown
    (λ no. ap (λ (s : HeapState g.row.P.Denot). s.view) (c.grow_alone.ensures.still no))

pub returns-clause-added : goal.returns-clause-added
returns-clause-added g c = λ yes.
    let read : c.map_of-map.new.h.view ≡ c.self.inside.heap.view = ap (λ (s : HeapState g.row.P.Denot). s.view) c.map_of-map.ensures.new in
    let again : c.gate.new.self.view ≡ c.map_of-map.new.h.view = ap (λ (s : HeapState g.row.P.Denot). s.view) c.gate.ensures.new in
    let gate : gate_in c.map_of-map.new.h.view.trail c.map_of-map.result ≡ Some c.unwrap-gate.result = sym c.gate.ensures.value ∙ c.unwrap-gate.ensures in
    let grown = c.grow_alone.ensures.grown yes in
    let after : ObjectsState g.row.P.Denot = record { heap = c.grow_alone.new.h; kept = c.self.inside.kept.items; of_null = c.self.inside.of_null } in
    let on = g.met.P.Pace.goes_on in
    subst (λ (s : ObjectsState g.row.P.Denot). Steps g.P.Pace.went s (Added c.args.o c.args.p) after) c.self.view_is (record {
      world = call-alone-world _ _ c.args.o c.self.view_is c.self.invariant c.requires.object c.requires.fast c.requires.private c.map_of-map.new.h.view c.gate.new.self.view c.map_of-map.result c.unwrap-gate.result read again c.map_of-map.ensures.map gate c.args.p c.maps_are_kept.ensures.law c.details_rise.ensures.law c.trees_stay.ensures.law c.unused_says_nothing.ensures.law c.grow_alone.new.h.view grown;
      shape = grown.changed.shape ∙ ap (λ (w : View). w.shape) (again ∙ read);
      goes = goes-on c.self.inside.heap.desk c.map_of-map.new.h.desk c.grow_alone.new.h.desk c.map_of-map.ensures.goes
          (goes-on c.map_of-map.new.h.desk c.gate.new.self.desk c.grow_alone.new.h.desk c.gate.ensures.goes c.grow_alone.ensures.goes);
      went = on _ _ _ _ _ _ c.map_of-map.ensures.went (on _ _ _ _ _ _ c.gate.ensures.went c.grow_alone.ensures.went);
      keeps =
          let v = c.self.inside.heap.view in
          let w = c.grow_alone.new.h.view in
          let m = c.map_of-map.result in
          let n = c.unwrap-gate.result.entries in
          alone-facts c.maps_are_kept.ensures.law c.details_rise.ensures.law c.forms_are_kept.ensures.law c.stable_is_kept.ensures.law c.honest_after.ensures.law c.kept_is_carried.ensures.law c.moved_is_carried.ensures.law c.stored_is_given.ensures.law
          v w c.self.inside.kept.items c.self.inside.of_null c.self.invariant c.args.o m n c.unwrap-gate.result c.args.p c.map_of-map.ensures.map (ap (λ (x : View). gate_in x.trail m) (sym read) ∙ gate) refl
          (subst (λ (x : View). IsGrownAlone x w c.args.o m n c.args.p) (again ∙ read) grown);
    })

pub returns-clause-marks : goal.returns-clause-marks
returns-clause-marks g c = λ yes.
    let v = c.self.inside.heap.view in
    let w = c.grow_alone.new.h.view in
    let m = c.map_of-map.result in
    let n = c.unwrap-gate.result.entries in
    let same : c.gate.new.self.view ≡ v = ap (λ (s : HeapState g.row.P.Denot). s.view) c.gate.ensures.new ∙ ap (λ (s : HeapState g.row.P.Denot). s.view) c.map_of-map.ensures.new in
    let own : IsTrue (root_in v.trail c.args.o).is_proto = subst (λ (s : ObjectsState g.row.P.Denot). IsTrue (root_in s.heap.view.trail c.args.o).is_proto) (sym c.self.view_is) c.requires.private in
    subst (λ (s : ObjectsState g.row.P.Denot). MarksBut (AddKills s.heap.view s.kept c.args.o c.args.p) s.heap.view.trail w.trail c.args.o) c.self.view_is
    (marks-none (AddKills v c.self.inside.kept.items c.args.o c.args.p) c.args.o (λ x kills. true≢false (sym own ∙ kills.shared))
    (alone-marks v w c.args.o m n c.args.p c.map_of-map.ensures.map (subst (λ (x : View). IsGrownAlone x w c.args.o m n c.args.p) same (c.grow_alone.ensures.grown yes))))

pub returns-clause-details : goal.returns-clause-details
returns-clause-details g c = λ yes.
    let v = c.self.inside.heap.view in
    let w = c.grow_alone.new.h.view in
    let m = c.map_of-map.result in
    let n = c.unwrap-gate.result.entries in
    let first : c.map_of-map.new.h.view ≡ v = ap (λ (s : HeapState g.row.P.Denot). s.view) c.map_of-map.ensures.new in
    let same : c.gate.new.self.view ≡ v = ap (λ (s : HeapState g.row.P.Denot). s.view) c.gate.ensures.new ∙ first in
    let gate : gate_in v.trail m ≡ Some c.unwrap-gate.result = ap (λ (x : View). gate_in x.trail m) (sym first) ∙ (sym c.gate.ensures.value ∙ c.unwrap-gate.ensures) in
    let proto : (root_in v.trail c.args.o).is_proto ≡ true = subst (λ (s : ObjectsState g.row.P.Denot). (root_in s.heap.view.trail c.args.o).is_proto ≡ true) (sym c.self.view_is) c.requires.private in
    subst (λ (s : ObjectsState g.row.P.Denot). DetailsAre (AddedGets s.heap.view c.args.o c.args.p) s.heap.view.trail w.trail) c.self.view_is
    (added-gets v w c.args.o m n c.args.p true c.map_of-map.ensures.map (ap entries_in gate) proto
    (subst (λ (x : View). DetailsAre (GrownGets true x.trail x.used m n c.args.p) x.trail w.trail) same (c.grow_alone.ensures.details yes)))
