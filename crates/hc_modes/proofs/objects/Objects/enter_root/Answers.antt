use Rattle.std.proofs.Common.{◌≡◌, ℕ, ◌<◌, Err, false, Option, Some, None, length, set, refl, sym, ap, ◌∙◌, subst}
use Rattle.std.specs.Prelude.{option_map}
use Rattle.hc_value.specs.declared.reply.Cause.{Cause}
use Rattle.hc_value.specs.declared.reply.Cause.TheVariants.{Space}
use Rattle.hc_heap.specs.Writes.{ObjectMap}
use Rattle.hc_heap.specs.Readings.{detail_in, map_in, root_in}
use Rattle.hc_heap.specs.Frames.{goes-on}
use Rattle.hc_heap.specs.States.{View, IsHeap, with_write}
use Rattle.hc_heap.specs.declared.space.Space.{Space as NoSpace}
use Rattle.hc_tree.specs.Growth.{IsStill as Stays, root_of, root_need}
use Rattle.hc_tree.specs.Needs.{HasSpace, with_need}
use Rattle.hc_table.specs.World.{new_object, object}
use Rattle.hc_modes.specs.Admitting.{FactsStay}
use Rattle.hc_modes.specs.Came.{world_of}
use Rattle.hc_modes.specs.Creating.{IsEntered}
use Rattle.hc_slots.specs.Meaning.{Dictionary}
use Rattle.hc_modes.specs.Meaning.{cause_in, kept_of, world}
use Rattle.hc_modes.specs.Modes.{StaysFast, if_fast}
use Rattle.hc_modes.specs.Rest.{Marks}
use Rattle.hc_modes.specs.State.{ObjectsState, IsObjects}
use Rattle.hc_modes.proofs.Become.{cause-some, still-heap}
use Rattle.hc_modes.proofs.Entering.{enter-details, enter-facts, enter-lawful, enter-marks, enter-proto, enter-sound, enter-world, unentered}
use Rattle.hc_modes.proofs.Items.{kept-set, kept-set_here}
use Rattle.hc_modes.proofs.Prototypes.{slow-none}
use Rattle.hc_slots.specs.Cases.{some-of}
use Rattle.hc_modes.proofs.Rooted.{IsRooted, is-rooted}
use Rattle.hc_modes.proofs.Shown.{within}
use Rattle.hc_modes.proofs.objects.Objects.enter_root.Goals as goal

pub set_object_map-requires-clause-lawful : goal.set_object_map-requires-clause-lawful
set_object_map-requires-clause-lawful g c =
    let v = c.self.inside.heap.view in
    let kept = c.self.inside.kept.items in
    let null = c.self.inside.of_null in
    let o = c.args.o in
    let proto = c.args.proto in
    let w = c.root.new.h.view in
    let then = c.root.new.of_null in
    let r = c.in-Ok.root in
    let e = c.in-Ok.ensures in
    let it : IsRooted v w null then proto r = is-rooted c.self.inside.heap c.root.new.h null then proto r e.root e.still e.null_still e.made e.null e.null_root e.used e.shape e.tree e.heap in
    let there : o < length kept = within _ _ o c.self.view_is c.requires.object in
    let cause : cause_in kept o ≡ Some Space = subst (λ (s : ObjectsState g.row.P.Denot). cause_in s.kept o ≡ Some Space) (sym c.self.view_is) c.requires.slow in
    let d = some-of (kept_of kept o) (cause-some kept o Space cause) in
    let none : map_in v.trail o ≡ None = slow-none v kept null c.self.invariant o there d.0 d.1 in
    let shared : (root_in v.trail o).is_proto ≡ false = subst (λ (s : ObjectsState g.row.P.Denot). (root_in s.heap.view.trail o).is_proto ≡ false) (sym c.self.view_is) c.requires.shared in
    enter-lawful c.maps_are_kept.ensures.law c.details_rise.ensures.law c.trees_stay.ensures.law c.unused_says_nothing.ensures.law v w kept null then proto o r c.self.invariant it none shared

pub invariant_of-self-2 : goal.invariant_of-self-2
invariant_of-self-2 g c =
    let v = c.self.inside.heap.view in
    let kept = c.self.inside.kept.items in
    let null = c.self.inside.of_null in
    let o = c.args.o in
    let proto = c.args.proto in
    let w = c.root.new.h.view in
    let then = c.root.new.of_null in
    let r = c.in-Ok.root in
    let e = c.in-Ok.ensures in
    let it : IsRooted v w null then proto r = is-rooted c.self.inside.heap c.root.new.h null then proto r e.root e.still e.null_still e.made e.null e.null_root e.used e.shape e.tree e.heap in
    let there : o < length kept = within _ _ o c.self.view_is c.requires.object in
    let cause : cause_in kept o ≡ Some Space = subst (λ (s : ObjectsState g.row.P.Denot). cause_in s.kept o ≡ Some Space) (sym c.self.view_is) c.requires.slow in
    let d = some-of (kept_of kept o) (cause-some kept o Space cause) in
    let none : map_in v.trail o ≡ None = slow-none v kept null c.self.invariant o there d.0 d.1 in
    let shared : (root_in v.trail o).is_proto ≡ false = subst (λ (s : ObjectsState g.row.P.Denot). (root_in s.heap.view.trail o).is_proto ≡ false) (sym c.self.view_is) c.requires.shared in
    let moved = c.set_object_map.ensures.view in
    let heap : IsHeap (with_write w (ObjectMap o (Some r))) = subst IsHeap moved c.set_object_map.ensures.heap in
    let value : object (world v.trail kept) o ≡ new_object proto = subst (λ (s : ObjectsState g.row.P.Denot). object (world_of s) o ≡ new_object proto) (sym c.self.view_is) c.requires.value in
    subst (λ (x : View). IsObjects x (set kept o None) then) (sym moved) (enter-sound c.maps_are_kept.ensures.law c.details_rise.ensures.law c.trees_stay.ensures.law c.unused_says_nothing.ensures.law v w kept null then proto o r c.self.invariant it none shared heap there value)

stays-put : (root : Option ℕ) (e : NoSpace) → Stays root (Err e)
stays-put (Some m) e = tt
stays-put None e = tt

pub returns-in_default : goal.returns-in_default
returns-in_default g c =
    let v = c.self.inside.heap.view in
    let kept = c.self.inside.kept.items in
    let null = c.self.inside.of_null in
    let o = c.args.o in
    let first : ObjectsState g.row.P.Denot = record { heap = c.self.inside.heap; kept = kept; of_null = null } in
    let then : ObjectsState g.row.P.Denot = record { heap = c.root.new.h; kept = kept; of_null = c.root.new.of_null } in
    let there : o < length kept = within _ _ o c.self.view_is c.requires.object in
    let cause : cause_in kept o ≡ Some Space = subst (λ (s : ObjectsState g.row.P.Denot). cause_in s.kept o ≡ Some Space) (sym c.self.view_is) c.requires.slow in
    let d = some-of (kept_of kept o) (cause-some kept o Space cause) in
    let none : map_in v.trail o ≡ None = slow-none v kept null c.self.invariant o there d.0 d.1 in
    let loads = c.root.ensures.goes.loads in
    record {
      entered = subst (λ (s : ObjectsState g.row.P.Denot). IsEntered g.P.Pace.went s o c.args.proto then) c.self.view_is
          (unentered g.P.Pace.went g.met.P.Pace.stays first then o c.args.proto c.self.invariant (still-heap first then (c.in_default.ensures.still (stays-put (root_of v.trail c.args.proto null) c.in_default.field-0)) refl (c.in_default.ensures.null_still (stays-put (root_of v.trail c.args.proto null) c.in_default.field-0)) loads) cause none c.in_default.ensures.space);
    }

pub returns : goal.returns
returns g c =
    let v = c.self.inside.heap.view in
    let kept = c.self.inside.kept.items in
    let null = c.self.inside.of_null in
    let o = c.args.o in
    let proto = c.args.proto in
    let w = c.root.new.h.view in
    let then = c.root.new.of_null in
    let r = c.in-Ok.root in
    let e = c.in-Ok.ensures in
    let it : IsRooted v w null then proto r = is-rooted c.self.inside.heap c.root.new.h null then proto r e.root e.still e.null_still e.made e.null e.null_root e.used e.shape e.tree e.heap in
    let there : o < length kept = within _ _ o c.self.view_is c.requires.object in
    let cause : cause_in kept o ≡ Some Space = subst (λ (s : ObjectsState g.row.P.Denot). cause_in s.kept o ≡ Some Space) (sym c.self.view_is) c.requires.slow in
    let d = some-of (kept_of kept o) (cause-some kept o Space cause) in
    let none : map_in v.trail o ≡ None = slow-none v kept null c.self.invariant o there d.0 d.1 in
    let shared : (root_in v.trail o).is_proto ≡ false = subst (λ (s : ObjectsState g.row.P.Denot). (root_in s.heap.view.trail o).is_proto ≡ false) (sym c.self.view_is) c.requires.shared in
    let moved = c.set_object_map.ensures.view in
    let heap : IsHeap (with_write w (ObjectMap o (Some r))) = subst IsHeap moved c.set_object_map.ensures.heap in
    let value : object (world v.trail kept) o ≡ new_object proto = subst (λ (s : ObjectsState g.row.P.Denot). object (world_of s) o ≡ new_object proto) (sym c.self.view_is) c.requires.value in
    let now = set kept o None in
    let after : ObjectsState g.row.P.Denot = record { heap = c.set_object_map.new.self; kept = now; of_null = then } in
    let fast : cause_in now o ≡ None = ap (λ (x : Option Dictionary). option_map (λ y. y.cause) x) (kept-set_here kept o None there) in
    record {
      entered = subst (λ (s : ObjectsState g.row.P.Denot). IsEntered g.P.Pace.went s o proto after) c.self.view_is (record {
        steps = record {
          world = subst (λ (x : View). world x.trail now ≡ world v.trail kept) (sym moved) (enter-world c.maps_are_kept.ensures.law c.details_rise.ensures.law c.trees_stay.ensures.law c.unused_says_nothing.ensures.law v w kept null then proto o r c.self.invariant it none shared heap there value);
          shape = ap (λ (x : View). x.shape) moved ∙ it.shape;
          goes = goes-on c.self.inside.heap.desk c.root.new.h.desk c.set_object_map.new.self.desk c.root.ensures.goes c.set_object_map.ensures.goes;
          went = g.met.P.Pace.goes_on _ _ _ _ _ _ c.root.ensures.went c.set_object_map.ensures.went;
          keeps = subst (λ (x : View). FactsStay v.shape v.trail x.trail) (sym moved) (enter-facts c.maps_are_kept.ensures.law c.details_rise.ensures.law c.trees_stay.ensures.law c.unused_says_nothing.ensures.law v w kept null then proto o r c.self.invariant it none shared heap c.forms_are_kept.ensures.law c.honest_after.ensures.law c.kept_is_carried.ensures.law);
        };
        mode = subst (λ (x : Option Cause). StaysFast (HasSpace v (root_need (root_of v.trail proto null))) x) (sym fast) (record { stays = (λ e. c.in-Ok.ensures.space, λ s. refl); leaves = tt });
        used = ap (λ (x : View). x.used) moved ∙ it.used ∙ ap (λ (x : Option Cause). with_need (if_fast x (root_need (root_of v.trail proto null))) v.used) (sym fast);
        protos = λ q. subst (λ (x : View). (root_in x.trail q).is_proto ≡ (root_in v.trail q).is_proto) (sym moved) (enter-proto c.maps_are_kept.ensures.law c.details_rise.ensures.law c.trees_stay.ensures.law c.unused_says_nothing.ensures.law v w kept null then proto o r c.self.invariant it none shared heap q);
        others = kept-set kept o None;
        none = none;
        marks = subst (λ (x : View). Marks v.trail x.trail o) (sym moved) (enter-marks c.maps_are_kept.ensures.law c.details_rise.ensures.law c.trees_stay.ensures.law c.unused_says_nothing.ensures.law v w kept null then proto o r c.self.invariant it none shared heap);
        details = λ f. ap (λ (x : View). detail_in x.trail f) moved ∙ enter-details v w null then proto o r it f;
      });
    }
