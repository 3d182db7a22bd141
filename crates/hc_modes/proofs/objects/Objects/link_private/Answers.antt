use Rattle.std.proofs.Common.{refl, ◌≡◌, ◌∙◌, Some, ap, sym, subst, false}
use Rattle.hc_heap.specs.Readings.{gate_in}
use Rattle.hc_heap.specs.Frames.{goes-on}
use Rattle.hc_heap.specs.States.{View, HeapState}
use Rattle.hc_table.specs.Changes.{Linked}
use Rattle.hc_modes.specs.Details.{DetailsAre, GetsNothing}
use Rattle.hc_modes.proofs.Facts.{copied-facts}
use Rattle.hc_modes.specs.Came.{Steps}
use Rattle.hc_modes.specs.State.{ObjectsState}
use Rattle.hc_modes.proofs.Linking.{call-link-sound, call-link-world, call-may-be, call-owner}
use Rattle.hc_modes.proofs.Shown.{fast-has}
use Rattle.hc_tree.specs.Details.{NoMap}
use Rattle.hc_modes.specs.Rest.{DeathsAre, Relinks}
use Rattle.hc_modes.proofs.Sparing.{no-deaths}
use Rattle.hc_modes.specs.Privates.{IsMovedToCopy}
use Rattle.hc_modes.proofs.Marking.{copied-relink}
use Rattle.hc_modes.proofs.objects.Objects.link_private.Goals as goal

pub map_of-map-requires : goal.map_of-map-requires
map_of-map-requires g c = record { fast = fast-has _ _ c.args.o c.self.view_is c.requires.object c.self.invariant c.requires.fast }

pub link_alone-requires-clause-open : goal.link_alone-requires-clause-open
link_alone-requires-clause-open g c =
    let read : c.map_of-map.new.h.view ≡ c.self.inside.heap.view = ap (λ (s : HeapState g.row.P.Denot). s.view) c.map_of-map.ensures.new in
    let again : c.gate.new.self.view ≡ c.map_of-map.new.h.view = ap (λ (s : HeapState g.row.P.Denot). s.view) c.gate.ensures.new in
    let gate : gate_in c.map_of-map.new.h.view.trail c.map_of-map.result ≡ Some c.unwrap-gate.result = sym c.gate.ensures.value ∙ c.unwrap-gate.ensures in
    (call-owner _ _ c.args.o c.self.view_is c.self.invariant c.requires.object c.requires.fast c.requires.private c.map_of-map.new.h.view c.gate.new.self.view c.map_of-map.result c.unwrap-gate.result read again c.map_of-map.ensures.map gate).is_open

pub link_alone-requires-clause-holds : goal.link_alone-requires-clause-holds
link_alone-requires-clause-holds g c =
    let read : c.map_of-map.new.h.view ≡ c.self.inside.heap.view = ap (λ (s : HeapState g.row.P.Denot). s.view) c.map_of-map.ensures.new in
    let again : c.gate.new.self.view ≡ c.map_of-map.new.h.view = ap (λ (s : HeapState g.row.P.Denot). s.view) c.gate.ensures.new in
    let gate : gate_in c.map_of-map.new.h.view.trail c.map_of-map.result ≡ Some c.unwrap-gate.result = sym c.gate.ensures.value ∙ c.unwrap-gate.ensures in
    (call-owner _ _ c.args.o c.self.view_is c.self.invariant c.requires.object c.requires.fast c.requires.private c.map_of-map.new.h.view c.gate.new.self.view c.map_of-map.result c.unwrap-gate.result read again c.map_of-map.ensures.map gate).holds

pub link_alone-requires-clause-handed : goal.link_alone-requires-clause-handed
link_alone-requires-clause-handed g c =
    let read : c.map_of-map.new.h.view ≡ c.self.inside.heap.view = ap (λ (s : HeapState g.row.P.Denot). s.view) c.map_of-map.ensures.new in
    let again : c.gate.new.self.view ≡ c.map_of-map.new.h.view = ap (λ (s : HeapState g.row.P.Denot). s.view) c.gate.ensures.new in
    let gate : gate_in c.map_of-map.new.h.view.trail c.map_of-map.result ≡ Some c.unwrap-gate.result = sym c.gate.ensures.value ∙ c.unwrap-gate.ensures in
    (call-owner _ _ c.args.o c.self.view_is c.self.invariant c.requires.object c.requires.fast c.requires.private c.map_of-map.new.h.view c.gate.new.self.view c.map_of-map.result c.unwrap-gate.result read again c.map_of-map.ensures.map gate).handed

pub link_alone-requires-clause-proto : goal.link_alone-requires-clause-proto
link_alone-requires-clause-proto g c =
    let read : c.map_of-map.new.h.view ≡ c.self.inside.heap.view = ap (λ (s : HeapState g.row.P.Denot). s.view) c.map_of-map.ensures.new in
    let again : c.gate.new.self.view ≡ c.map_of-map.new.h.view = ap (λ (s : HeapState g.row.P.Denot). s.view) c.gate.ensures.new in
    let gate : gate_in c.map_of-map.new.h.view.trail c.map_of-map.result ≡ Some c.unwrap-gate.result = sym c.gate.ensures.value ∙ c.unwrap-gate.ensures in
    call-may-be _ _ c.args.o c.self.view_is c.self.invariant c.requires.object c.requires.fast c.requires.private c.map_of-map.new.h.view c.gate.new.self.view c.map_of-map.result c.unwrap-gate.result read again c.map_of-map.ensures.map gate c.args.proto c.requires.there c.requires.named

pub invariant_of-self : goal.invariant_of-self
invariant_of-self g c =
    let read : c.map_of-map.new.h.view ≡ c.self.inside.heap.view = ap (λ (s : HeapState g.row.P.Denot). s.view) c.map_of-map.ensures.new in
    let again : c.gate.new.self.view ≡ c.map_of-map.new.h.view = ap (λ (s : HeapState g.row.P.Denot). s.view) c.gate.ensures.new in
    let gate : gate_in c.map_of-map.new.h.view.trail c.map_of-map.result ≡ Some c.unwrap-gate.result = sym c.gate.ensures.value ∙ c.unwrap-gate.ensures in
    call-link-sound _ _ c.args.o c.self.view_is c.self.invariant c.requires.object c.requires.fast c.requires.private c.map_of-map.new.h.view c.gate.new.self.view c.map_of-map.result c.unwrap-gate.result read again c.map_of-map.ensures.map gate c.maps_are_kept.ensures.law c.details_rise.ensures.law c.unused_says_nothing.ensures.law c.link_alone.new.h.view c.args.proto c.changes_keep.ensures.law c.requires.there c.requires.no_cycle c.link_alone.result c.link_alone.ensures.linked
    (λ no. ap (λ (s : HeapState g.row.P.Denot). s.view) (c.link_alone.ensures.still no))

pub returns-clause-linked : goal.returns-clause-linked
returns-clause-linked g c = λ yes.
    let read : c.map_of-map.new.h.view ≡ c.self.inside.heap.view = ap (λ (s : HeapState g.row.P.Denot). s.view) c.map_of-map.ensures.new in
    let again : c.gate.new.self.view ≡ c.map_of-map.new.h.view = ap (λ (s : HeapState g.row.P.Denot). s.view) c.gate.ensures.new in
    let gate : gate_in c.map_of-map.new.h.view.trail c.map_of-map.result ≡ Some c.unwrap-gate.result = sym c.gate.ensures.value ∙ c.unwrap-gate.ensures in
    let moved = c.link_alone.ensures.linked yes in
    let after : ObjectsState g.row.P.Denot = record { heap = c.link_alone.new.h; kept = c.self.inside.kept.items; of_null = c.self.inside.of_null } in
    let on = g.met.P.Pace.goes_on in
    subst (λ (s : ObjectsState g.row.P.Denot). Steps g.P.Pace.went s (Linked c.args.o c.args.proto) after) c.self.view_is (record {
      world = call-link-world _ _ c.args.o c.self.view_is c.self.invariant c.requires.object c.requires.fast c.requires.private c.map_of-map.new.h.view c.gate.new.self.view c.map_of-map.result c.unwrap-gate.result read again c.map_of-map.ensures.map gate c.maps_are_kept.ensures.law c.details_rise.ensures.law c.unused_says_nothing.ensures.law c.link_alone.new.h.view c.args.proto moved;
      shape = moved.changed.shape ∙ ap (λ (w : View). w.shape) (again ∙ read);
      goes = goes-on c.self.inside.heap.desk c.map_of-map.new.h.desk c.link_alone.new.h.desk c.map_of-map.ensures.goes
          (goes-on c.map_of-map.new.h.desk c.gate.new.self.desk c.link_alone.new.h.desk c.gate.ensures.goes c.link_alone.ensures.goes);
      went = on _ _ _ _ _ _ c.map_of-map.ensures.went (on _ _ _ _ _ _ c.gate.ensures.went c.link_alone.ensures.went);
      keeps =
          let v = c.self.inside.heap.view in
          let w = c.link_alone.new.h.view in
          let m = c.map_of-map.result in
          let n = c.unwrap-gate.result.entries in
          copied-facts c.maps_are_kept.ensures.law c.details_rise.ensures.law c.forms_are_kept.ensures.law c.stable_is_kept.ensures.law c.honest_after.ensures.law c.kept_is_carried.ensures.law c.moved_is_carried.ensures.law
          v w c.self.inside.kept.items c.self.inside.of_null c.self.invariant c.args.o m n c.unwrap-gate.result c.map_of-map.ensures.map (ap (λ (x : View). gate_in x.trail m) (sym read) ∙ gate) refl false c.args.proto
          (subst (λ (x : View). IsMovedToCopy false x w c.args.o m n c.args.proto) (again ∙ read) moved);
    })

pub returns-clause-relinks : goal.returns-clause-relinks
returns-clause-relinks g c = λ yes.
    let v = c.self.inside.heap.view in
    let w = c.link_alone.new.h.view in
    let m = c.map_of-map.result in
    let n = c.unwrap-gate.result.entries in
    let same : c.gate.new.self.view ≡ v = ap (λ (s : HeapState g.row.P.Denot). s.view) c.gate.ensures.new ∙ ap (λ (s : HeapState g.row.P.Denot). s.view) c.map_of-map.ensures.new in
    let it : IsMovedToCopy false v w c.args.o m n c.args.proto = subst (λ (x : View). IsMovedToCopy false x w c.args.o m n c.args.proto) same (c.link_alone.ensures.linked yes) in
    subst (λ (s : ObjectsState g.row.P.Denot). Relinks s.heap.view.trail w.trail c.args.o c.args.proto) c.self.view_is
    (copied-relink v w c.args.o m n c.args.proto c.map_of-map.ensures.map it)

pub returns-clause-details : goal.returns-clause-details
returns-clause-details g c = λ yes.
    let v = c.self.inside.heap.view in
    let w = c.link_alone.new.h.view in
    let same : c.gate.new.self.view ≡ v = ap (λ (s : HeapState g.row.P.Denot). s.view) c.gate.ensures.new ∙ ap (λ (s : HeapState g.row.P.Denot). s.view) c.map_of-map.ensures.new in
    subst (λ (s : ObjectsState g.row.P.Denot). DetailsAre GetsNothing s.heap.view.trail w.trail) c.self.view_is
    (subst (λ (x : View). DetailsAre GetsNothing x.trail w.trail) same (c.link_alone.ensures.details yes))

pub returns-clause-deaths : goal.returns-clause-deaths
returns-clause-deaths g c = λ yes.
    let v = c.self.inside.heap.view in
    let w = c.link_alone.new.h.view in
    let m = c.map_of-map.result in
    let n = c.unwrap-gate.result.entries in
    let same : c.gate.new.self.view ≡ v = ap (λ (s : HeapState g.row.P.Denot). s.view) c.gate.ensures.new ∙ ap (λ (s : HeapState g.row.P.Denot). s.view) c.map_of-map.ensures.new in
    let it : IsMovedToCopy false v w c.args.o m n c.args.proto = subst (λ (x : View). IsMovedToCopy false x w c.args.o m n c.args.proto) same (c.link_alone.ensures.linked yes) in
    subst (λ (s : ObjectsState g.row.P.Denot). DeathsAre NoMap s.heap.view.trail w.trail) c.self.view_is (no-deaths v w c.args.o it.changed)
