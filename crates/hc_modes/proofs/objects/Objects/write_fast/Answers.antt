use Rattle.std.proofs.Common.{◌≡◌, ◌<◌, Some, None, length, ap, sym, subst}
use Rattle.hc_value.specs.Prop.{kind_of}
use Rattle.hc_heap.specs.Frames.{goes-on}
use Rattle.hc_heap.specs.Readings.{root_in}
use Rattle.hc_table.specs.Changes.{Wrote, kind_at}
use Rattle.hc_table.specs.World.{props_at}
use Rattle.hc_modes.specs.Admitting.{FitsField}
use Rattle.hc_modes.specs.Came.{Steps}
use Rattle.hc_modes.specs.Details.{DetailsAre, DetailsFirst, WroteGets}
use Rattle.hc_modes.specs.Meaning.{kept_of, world}
use Rattle.hc_modes.specs.Rest.{Marks}
use Rattle.hc_modes.specs.State.{ObjectsState}
use Rattle.hc_modes.proofs.Admitted.{entry-there}
use Rattle.hc_modes.proofs.Marking.{same-marks}
use Rattle.hc_modes.proofs.Shown.{fast-has, within}
use Rattle.hc_modes.proofs.Writing.{Laws, slot-there}
use Rattle.hc_modes.proofs.Wrote.{IsWritten, asked-slot, asked-sound, is-written}
use Rattle.hc_modes.proofs.objects.Objects.write_fast.Given.{Over}
use Rattle.hc_modes.proofs.objects.Objects.write_fast.Goals as goal

pub ask_field-rep-requires : goal.ask_field-rep-requires
ask_field-rep-requires g c =
    let laws : Laws = record { maps = c.maps_are_kept.ensures.law; details = c.details_rise.ensures.law; trees = c.trees_stay.ensures.law; unused = c.unused_says_nothing.ensures.law; gates = c.gates_are_open.ensures.law; changes = c.changes_keep.ensures.law } in
    let v = c.self.inside.heap.view in
    let kept = c.self.inside.kept.items in
    let there : c.args.o < length kept = within _ _ c.args.o c.self.view_is c.requires.object in
    let fast : kept_of kept c.args.o ≡ None = subst (λ (s : ObjectsState g.row.P.Denot). kept_of s.kept c.args.o ≡ None) (sym c.self.view_is) c.requires.fast in
    let kind : kind_at (props_at (world v.trail kept) c.args.o) c.args.i ≡ Some (kind_of c.args.held) =
    subst (λ (s : ObjectsState g.row.P.Denot). kind_at (props_at (world s.heap.view.trail s.kept) c.args.o) c.args.i ≡ Some (kind_of c.args.held)) (sym c.self.view_is) c.requires.kind in
    record {
      tree = c.self.invariant.tree;
      fast = fast-has _ _ c.args.o c.self.view_is c.requires.object c.self.invariant c.requires.fast;
      entry = entry-there laws.maps laws.details laws.unused v kept c.self.inside.of_null c.self.invariant c.args.o there fast c.args.i c.args.held kind;
      slot = slot-there laws v kept c.self.inside.of_null c.self.invariant c.args.o there fast c.args.i c.args.held kind;
      place = subst (λ (s : ObjectsState g.row.P.Denot). FitsField s.heap.view.trail c.args.o c.args.i c.args.held) (sym c.self.view_is) c.requires.place;
    }

pub put_slot-requires : goal.put_slot-requires
put_slot-requires g c =
    let laws : Laws = record { maps = c.maps_are_kept.ensures.law; details = c.details_rise.ensures.law; trees = c.trees_stay.ensures.law; unused = c.unused_says_nothing.ensures.law; gates = c.gates_are_open.ensures.law; changes = c.changes_keep.ensures.law } in
    let v = c.self.inside.heap.view in
    let kept = c.self.inside.kept.items in
    let there : c.args.o < length kept = within _ _ c.args.o c.self.view_is c.requires.object in
    let fast : kept_of kept c.args.o ≡ None = subst (λ (s : ObjectsState g.row.P.Denot). kept_of s.kept c.args.o ≡ None) (sym c.self.view_is) c.requires.fast in
    let kind : kind_at (props_at (world v.trail kept) c.args.o) c.args.i ≡ Some (kind_of c.args.held) =
    subst (λ (s : ObjectsState g.row.P.Denot). kind_at (props_at (world s.heap.view.trail s.kept) c.args.o) c.args.i ≡ Some (kind_of c.args.held)) (sym c.self.view_is) c.requires.kind in
    record {
      within = asked-slot laws v c.ask_field-rep.new.h.view kept c.self.inside.of_null c.self.invariant c.args.o there fast c.args.i c.args.held kind c.ask_field-rep.ensures.asked c.ask_field-rep.ensures.tree c.ask_field-rep.ensures.heap;
      out = (asked-sound laws v c.ask_field-rep.new.h.view kept c.self.inside.of_null c.self.invariant c.args.o there fast c.args.i c.args.held kind c.ask_field-rep.ensures.asked c.ask_field-rep.ensures.tree c.ask_field-rep.ensures.heap).stores c.args.o;
    }

whole : (g : Over) (c : goal.After-put_slot g) → IsWritten c.self.inside.heap.view c.put_slot.new.h.view c.self.inside.kept.items c.self.inside.of_null c.args.o c.args.i c.args.held
whole g c =
    let laws : Laws = record { maps = c.maps_are_kept.ensures.law; details = c.details_rise.ensures.law; trees = c.trees_stay.ensures.law; unused = c.unused_says_nothing.ensures.law; gates = c.gates_are_open.ensures.law; changes = c.changes_keep.ensures.law } in
    let v = c.self.inside.heap.view in
    let kept = c.self.inside.kept.items in
    let there : c.args.o < length kept = within _ _ c.args.o c.self.view_is c.requires.object in
    let fast : kept_of kept c.args.o ≡ None = subst (λ (s : ObjectsState g.row.P.Denot). kept_of s.kept c.args.o ≡ None) (sym c.self.view_is) c.requires.fast in
    let kind : kind_at (props_at (world v.trail kept) c.args.o) c.args.i ≡ Some (kind_of c.args.held) =
    subst (λ (s : ObjectsState g.row.P.Denot). kind_at (props_at (world s.heap.view.trail s.kept) c.args.o) c.args.i ≡ Some (kind_of c.args.held)) (sym c.self.view_is) c.requires.kind in
    is-written laws v c.ask_field-rep.new.h.view kept c.self.inside.of_null c.self.invariant c.args.o there fast c.args.i c.args.held kind c.ask_field-rep.ensures.asked c.ask_field-rep.ensures.tree c.ask_field-rep.ensures.heap
    c.forms_are_kept.ensures.law c.requires.range c.put_slot.new.h.view c.ask_field-rep.result c.ask_field-rep.ensures.rep c.held_word-word.result c.held_word-word.ensures.form c.held_word-word.ensures.holds c.held_word-word.ensures.alone c.put_slot.ensures.view c.put_slot.ensures.heap

pub invariant_of-self : goal.invariant_of-self
invariant_of-self g c = (whole g c).sound

pub returns-clause-steps : goal.returns-clause-steps
returns-clause-steps g c =
    let all = whole g c in
    let after : ObjectsState g.row.P.Denot = record { heap = c.put_slot.new.h; kept = c.self.inside.kept.items; of_null = c.self.inside.of_null } in
    subst (λ (s : ObjectsState g.row.P.Denot). Steps g.P.Pace.went s (Wrote c.args.o c.args.i c.args.held) after) c.self.view_is (record {
      world = all.world_is;
      shape = all.shape;
      goes = goes-on c.self.inside.heap.desk c.ask_field-rep.new.h.desk c.put_slot.new.h.desk c.ask_field-rep.ensures.goes c.put_slot.ensures.goes;
      went = g.met.P.Pace.goes_on _ _ _ _ _ _ c.ask_field-rep.ensures.went c.put_slot.ensures.went;
      keeps = all.facts c.honest_after.ensures.law c.kept_is_carried.ensures.law c.stored_is_given.ensures.law c.storing_keeps_constants.ensures.law;
    })

pub returns-clause-used : goal.returns-clause-used
returns-clause-used g c = subst (λ (s : ObjectsState g.row.P.Denot). c.put_slot.new.h.view.used ≡ s.heap.view.used) c.self.view_is (whole g c).used

pub returns-clause-protos : goal.returns-clause-protos
returns-clause-protos g c q =
    subst (λ (s : ObjectsState g.row.P.Denot). (root_in c.put_slot.new.h.view.trail q).is_proto ≡ (root_in s.heap.view.trail q).is_proto) c.self.view_is (ap (λ r. r.is_proto) ((whole g c).roots q))

pub returns-clause-marks : goal.returns-clause-marks
returns-clause-marks g c =
    let all = whole g c in
    subst (λ (s : ObjectsState g.row.P.Denot). Marks s.heap.view.trail c.put_slot.new.h.view.trail c.args.o) c.self.view_is
    (same-marks c.self.inside.heap.view.trail c.put_slot.new.h.view.trail c.args.o all.bits all.maps all.cells)

pub returns-clause-details : goal.returns-clause-details
returns-clause-details g c =
    subst (λ (s : ObjectsState g.row.P.Denot). DetailsAre (WroteGets s.heap.view.trail s.kept c.args.o c.args.i c.args.held) s.heap.view.trail c.put_slot.new.h.view.trail) c.self.view_is (whole g c).details

pub returns-clause-order : goal.returns-clause-order
returns-clause-order g c = subst (λ (s : ObjectsState g.row.P.Denot). DetailsFirst s.heap.view.trail c.put_slot.new.h.view.trail) c.self.view_is (whole g c).order
