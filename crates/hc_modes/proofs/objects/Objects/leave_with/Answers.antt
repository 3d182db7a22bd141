use Rattle.std.proofs.Common.{◌≡◌, ◌∙◌, ◌<◌, ◌≤◌, ◌∷◌, Option, Some, None, length, set, refl, ap, sym, subst, arith, Bool, cond, eq-eqb}
use Rattle.std.specs.Prelude.{option_map}
use Rattle.hc_heap.specs.Writes.{ObjectMap}
use Rattle.hc_heap.specs.Readings.{map_in}
use Rattle.hc_heap.specs.Frames.{goes-on}
use Rattle.hc_heap.specs.States.{View, HeapState, IsHeap}
use Rattle.hc_tree.specs.Growth.{marked, IsUnmoved}
use Rattle.hc_tree.specs.Tree.{IsTree}
use Rattle.hc_table.specs.Changes.{Moved}
use Rattle.hc_table.specs.World.{object}
use Rattle.hc_modes.specs.Came.{Steps, world_of}
use Rattle.hc_slots.specs.Meaning.{Dictionary, dictionary_object, object_shown}
use Rattle.hc_modes.specs.Meaning.{kept_of}
use Rattle.hc_modes.specs.State.{ObjectsState}
use Rattle.hc_heap.specs.Readings.{detail_in}
use Rattle.hc_modes.specs.Details.{DetailsAre, GetsNothing}
use Rattle.hc_modes.proofs.Gets.{details-none, marked-detail}
use Rattle.hc_modes.proofs.Items.{kept-set_here}
use Rattle.hc_modes.proofs.Left.{unmoved-one, unmoved-goes, unmoved-went, fast-is, map-used, left-world, left-sound, left-facts}
use Rattle.hc_modes.proofs.Shown.{fast-has, within}
use Rattle.hc_modes.specs.Rest.{Marks}
use Rattle.hc_modes.proofs.Marking.{left-marks}
use mathlib.Core.Logic.{inr}
use Rattle.hc_modes.proofs.objects.Objects.leave_with.Goals as goal

pub map_of-map-requires : goal.map_of-map-requires
map_of-map-requires g c = record { fast = fast-has _ _ c.args.o c.self.view_is c.requires.object c.self.invariant c.requires.fast }

pub leave_map-requires-clause-handed : goal.leave_map-requires-clause-handed
leave_map-requires-clause-handed g c =
    let v = c.self.inside.heap.view in
    let kept = c.self.inside.kept.items in
    let null = c.self.inside.of_null in
    let o = c.args.o in
    let there : o < length kept = within _ _ o c.self.view_is c.requires.object in
    let fast : kept_of kept o ≡ None = subst (λ (s : ObjectsState g.row.P.Denot). kept_of s.kept c.args.o ≡ None) (sym c.self.view_is) c.requires.fast in
    let again : c.map_of-map.new.h.view ≡ v = ap (λ (s : HeapState g.row.P.Denot). s.view) c.map_of-map.ensures.new in
    let m = c.map_of-map.result in
    let is_map : map_in v.trail o ≡ Some m = c.map_of-map.ensures.map in
    let items = c.self.invariant.items in
    let here : o < v.used.objects = omega (arith, there, items) in
    subst (λ (w : View). o < w.used.objects) (sym again) here

pub leave_map-requires-clause-there : goal.leave_map-requires-clause-there
leave_map-requires-clause-there g c =
    let v = c.self.inside.heap.view in
    let kept = c.self.inside.kept.items in
    let null = c.self.inside.of_null in
    let o = c.args.o in
    let there : o < length kept = within _ _ o c.self.view_is c.requires.object in
    let fast : kept_of kept o ≡ None = subst (λ (s : ObjectsState g.row.P.Denot). kept_of s.kept c.args.o ≡ None) (sym c.self.view_is) c.requires.fast in
    let again : c.map_of-map.new.h.view ≡ v = ap (λ (s : HeapState g.row.P.Denot). s.view) c.map_of-map.ensures.new in
    let m = c.map_of-map.result in
    let is_map : map_in v.trail o ≡ Some m = c.map_of-map.ensures.map in
    subst (λ (w : View). m < w.used.maps) (sym again) (map-used c.maps_are_kept.ensures.law c.details_rise.ensures.law c.trees_stay.ensures.law c.unused_says_nothing.ensures.law v kept null c.self.invariant o there fast m is_map)

pub index_mut-requires : goal.index_mut-requires
index_mut-requires g c =
    let v = c.self.inside.heap.view in
    let kept = c.self.inside.kept.items in
    let null = c.self.inside.of_null in
    let o = c.args.o in
    let there : o < length kept = within _ _ o c.self.view_is c.requires.object in
    let fast : kept_of kept o ≡ None = subst (λ (s : ObjectsState g.row.P.Denot). kept_of s.kept c.args.o ≡ None) (sym c.self.view_is) c.requires.fast in
    omega (arith, there)

pub invariant_of-self : goal.invariant_of-self
invariant_of-self g c =
    let v = c.self.inside.heap.view in
    let kept = c.self.inside.kept.items in
    let null = c.self.inside.of_null in
    let o = c.args.o in
    let there : o < length kept = within _ _ o c.self.view_is c.requires.object in
    let fast : kept_of kept o ≡ None = subst (λ (s : ObjectsState g.row.P.Denot). kept_of s.kept c.args.o ≡ None) (sym c.self.view_is) c.requires.fast in
    let again : c.map_of-map.new.h.view ≡ v = ap (λ (s : HeapState g.row.P.Denot). s.view) c.map_of-map.ensures.new in
    let m = c.map_of-map.result in
    let is_map : map_in v.trail o ≡ Some m = c.map_of-map.ensures.map in
    let value : dictionary_object c.args.slow ≡ object_shown v.trail o None (map_in v.trail o) = subst (λ (s : ObjectsState g.row.P.Denot). dictionary_object c.args.slow ≡ object (world_of s) o) (sym c.self.view_is) c.requires.value ∙ fast-is v kept null c.self.invariant o there fast in
    let new = c.leave_map.new.h.view in
    let d = c.args.slow in
    let is : new ≡ record v { trail = ObjectMap o None ∷ marked v.trail m } = c.leave_map.ensures.view ∙ ap (λ (w : View). let x : View = record w { trail = ObjectMap o None ∷ marked w.trail m } in x) again in
    let marked_tree : IsTree (marked v.trail m) = subst (λ (w : View). IsTree (marked w.trail m)) again c.leave_map.ensures.marked_tree in
    let marked_heap : IsHeap (record v { trail = marked v.trail m }) = subst (λ (w : View). IsHeap (record w { trail = marked w.trail m })) again c.leave_map.ensures.marked_heap in
    left-sound c.maps_are_kept.ensures.law c.details_rise.ensures.law c.trees_stay.ensures.law c.unused_says_nothing.ensures.law v kept null c.self.invariant o there fast m is_map d value new is marked_tree marked_heap c.leave_map.ensures.heap

pub returns-clause-moved : goal.returns-clause-moved
returns-clause-moved g c =
    let v = c.self.inside.heap.view in
    let kept = c.self.inside.kept.items in
    let null = c.self.inside.of_null in
    let o = c.args.o in
    let there : o < length kept = within _ _ o c.self.view_is c.requires.object in
    let fast : kept_of kept o ≡ None = subst (λ (s : ObjectsState g.row.P.Denot). kept_of s.kept c.args.o ≡ None) (sym c.self.view_is) c.requires.fast in
    let again : c.map_of-map.new.h.view ≡ v = ap (λ (s : HeapState g.row.P.Denot). s.view) c.map_of-map.ensures.new in
    let m = c.map_of-map.result in
    let is_map : map_in v.trail o ≡ Some m = c.map_of-map.ensures.map in
    let value : dictionary_object c.args.slow ≡ object_shown v.trail o None (map_in v.trail o) = subst (λ (s : ObjectsState g.row.P.Denot). dictionary_object c.args.slow ≡ object (world_of s) o) (sym c.self.view_is) c.requires.value ∙ fast-is v kept null c.self.invariant o there fast in
    let new = c.leave_map.new.h.view in
    let d = c.args.slow in
    let is : new ≡ record v { trail = ObjectMap o None ∷ marked v.trail m } = c.leave_map.ensures.view ∙ ap (λ (w : View). let x : View = record w { trail = ObjectMap o None ∷ marked w.trail m } in x) again in
    let marked_tree : IsTree (marked v.trail m) = subst (λ (w : View). IsTree (marked w.trail m)) again c.leave_map.ensures.marked_tree in
    let marked_heap : IsHeap (record v { trail = marked v.trail m }) = subst (λ (w : View). IsHeap (record w { trail = marked w.trail m })) again c.leave_map.ensures.marked_heap in
    let first = c.self.inside.heap in
    let last = c.map_of-map.new.h in
    let unmoved : IsUnmoved first last = unmoved-one first last c.map_of-map.ensures.new in
    let one = ap (λ (s : HeapState g.row.P.Denot). s.desk.loads) c.map_of-map.ensures.new in
    let loads : first.desk.loads ≤ last.desk.loads = omega (arith, one) in
    let then : ObjectsState g.row.P.Denot = record { heap = c.leave_map.new.h; kept = set kept o (Some d); of_null = null } in
    subst (λ (s : ObjectsState g.row.P.Denot). Steps g.P.Pace.went s Moved then) c.self.view_is (record {
      world = left-world c.maps_are_kept.ensures.law c.details_rise.ensures.law c.trees_stay.ensures.law c.unused_says_nothing.ensures.law v kept null c.self.invariant o there fast m is_map d value new is marked_tree marked_heap c.leave_map.ensures.heap;
      shape = ap (λ (w : View). w.shape) is;
      goes = goes-on first.desk last.desk c.leave_map.new.h.desk (unmoved-goes first last unmoved loads) c.leave_map.ensures.goes;
      went = g.met.P.Pace.goes_on _ _ _ _ _ _ (unmoved-went g.P.Pace.went g.met.P.Pace.stays first last unmoved) c.leave_map.ensures.went;
      keeps = left-facts c.maps_are_kept.ensures.law c.details_rise.ensures.law c.trees_stay.ensures.law c.unused_says_nothing.ensures.law v kept null c.self.invariant o there fast m is_map d value new is marked_tree marked_heap c.leave_map.ensures.heap
          c.forms_are_kept.ensures.law c.stable_is_kept.ensures.law c.honest_after.ensures.law c.kept_is_carried.ensures.law;
    })

pub returns-clause-cause : goal.returns-clause-cause
returns-clause-cause g c =
    let v = c.self.inside.heap.view in
    let kept = c.self.inside.kept.items in
    let null = c.self.inside.of_null in
    let o = c.args.o in
    let there : o < length kept = within _ _ o c.self.view_is c.requires.object in
    let fast : kept_of kept o ≡ None = subst (λ (s : ObjectsState g.row.P.Denot). kept_of s.kept c.args.o ≡ None) (sym c.self.view_is) c.requires.fast in
    let d = c.args.slow in
    ap (λ (x : Option Dictionary). option_map (λ y. y.cause) x) (kept-set_here kept o (Some d) there)

pub returns-clause-marks : goal.returns-clause-marks
returns-clause-marks g c =
    let v = c.self.inside.heap.view in
    let o = c.args.o in
    let again : c.map_of-map.new.h.view ≡ v = ap (λ (s : HeapState g.row.P.Denot). s.view) c.map_of-map.ensures.new in
    let m = c.map_of-map.result in
    let is : c.leave_map.new.h.view ≡ record v { trail = ObjectMap o None ∷ marked v.trail m } = c.leave_map.ensures.view ∙ ap (λ (w : View). let x : View = record w { trail = ObjectMap o None ∷ marked w.trail m } in x) again in
    subst (λ (s : ObjectsState g.row.P.Denot). Marks s.heap.view.trail c.leave_map.new.h.view.trail o) c.self.view_is
    (left-marks v c.leave_map.new.h.view o m None is c.map_of-map.ensures.map (λ e. let f : ⊥ = cc in f) (inr refl))

pub returns-clause-gone : goal.returns-clause-gone
returns-clause-gone g c =
    let o = c.args.o in
    ap (λ (w : View). map_in w.trail o) c.leave_map.ensures.view
    ∙ ap (λ (b : Bool). cond b None (map_in (marked c.map_of-map.new.h.view.trail c.map_of-map.result) o)) (eq-eqb o o refl)

pub returns-clause-details : goal.returns-clause-details
returns-clause-details g c =
    let v = c.self.inside.heap.view in
    let o = c.args.o in
    let again : c.map_of-map.new.h.view ≡ v = ap (λ (s : HeapState g.row.P.Denot). s.view) c.map_of-map.ensures.new in
    let m = c.map_of-map.result in
    let is : c.leave_map.new.h.view ≡ record v { trail = ObjectMap o None ∷ marked v.trail m } = c.leave_map.ensures.view ∙ ap (λ (w : View). let x : View = record w { trail = ObjectMap o None ∷ marked w.trail m } in x) again in
    subst (λ (s : ObjectsState g.row.P.Denot). DetailsAre GetsNothing s.heap.view.trail c.leave_map.new.h.view.trail) c.self.view_is
    (details-none (λ f. ap (λ (w : View). detail_in w.trail f) is ∙ marked-detail v.trail m f))
