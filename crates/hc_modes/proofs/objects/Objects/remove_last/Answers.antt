use Rattle.std.proofs.Common.{◌≡◌, ◌∙◌, ℕ, ◌+◌, ◌-◌, ◌<◌, ◌∷◌, false, Option, Some, None, IsSome, length, refl, ap, sym, subst, arith}
use Rattle.std.specs.Prelude.{IsSomeAnd}
use Rattle.hc_heap.specs.Writes.{ObjectMap}
use Rattle.hc_heap.specs.Readings.{gate_in, parent_in, root_in}
use Rattle.hc_heap.specs.Lawful.{HoldsEntries}
use Rattle.hc_heap.specs.Frames.{goes-on}
use Rattle.hc_heap.specs.States.{View, HeapState, IsHeap}
use Rattle.hc_tree.specs.Growth.{marked}
use Rattle.hc_tree.specs.Tree.{IsTree}
use Rattle.hc_table.specs.Changes.{Removed}
use Rattle.hc_table.specs.World.{props_at}
use Rattle.hc_modes.specs.Came.{Steps}
use Rattle.hc_modes.specs.Meaning.{kept_of, world}
use Rattle.hc_modes.specs.State.{ObjectsState}
use Rattle.hc_heap.specs.Readings.{detail_in}
use Rattle.hc_modes.specs.Details.{DetailsAre, GetsNothing}
use Rattle.hc_modes.proofs.Gets.{details-none, marked-detail}
use Rattle.hc_modes.proofs.Shown.{within}
use Rattle.hc_slots.specs.Cases.{some-is}
use Rattle.hc_modes.proofs.Shrinking.{has-parent, map-there, parent-there, parent-filled, shrunk-world, shrunk-sound, shrunk-facts, parent-other}
use Rattle.hc_modes.proofs.Writing.{Laws, has-map}
use Rattle.hc_modes.specs.Rest.{Marks}
use Rattle.hc_modes.proofs.Marking.{left-marks}
use mathlib.Core.Logic.{inl}
use Rattle.hc_modes.proofs.objects.Objects.remove_last.Goals as goal

pub map_of-map-requires : goal.map_of-map-requires
map_of-map-requires g c =
    let v = c.self.inside.heap.view in
    let kept = c.self.inside.kept.items in
    let null = c.self.inside.of_null in
    let o = c.args.o in
    let there : o < length kept = within _ _ o c.self.view_is c.requires.object in
    let fast : kept_of kept o ≡ None = subst (λ (s : ObjectsState g.row.P.Denot). kept_of s.kept c.args.o ≡ None) (sym c.self.view_is) c.requires.fast in
    record { fast = has-map v kept null c.self.invariant o there fast }

pub unwrap-requires : goal.unwrap-requires
unwrap-requires g c =
    let v = c.self.inside.heap.view in
    let kept = c.self.inside.kept.items in
    let null = c.self.inside.of_null in
    let o = c.args.o in
    let there : o < length kept = within _ _ o c.self.view_is c.requires.object in
    let fast : kept_of kept o ≡ None = subst (λ (s : ObjectsState g.row.P.Denot). kept_of s.kept c.args.o ≡ None) (sym c.self.view_is) c.requires.fast in
    let laws : Laws = record { maps = c.maps_are_kept.ensures.law; details = c.details_rise.ensures.law; trees = c.trees_stay.ensures.law; unused = c.unused_says_nothing.ensures.law; gates = c.gates_are_open.ensures.law; changes = c.changes_keep.ensures.law } in
    let shared : (root_in v.trail o).is_proto ≡ false = subst (λ (s : ObjectsState g.row.P.Denot). (root_in s.heap.view.trail c.args.o).is_proto ≡ false) (sym c.self.view_is) c.requires.shared in
    let some : 0 < length (props_at (world v.trail kept) o) = subst (λ (s : ObjectsState g.row.P.Denot). 0 < length (props_at (world s.heap.view.trail s.kept) c.args.o)) (sym c.self.view_is) c.requires.some in
    let read : c.map_of-map.new.h.view ≡ v = ap (λ (s : HeapState g.row.P.Denot). s.view) c.map_of-map.ensures.new in
    let m = c.map_of-map.result in
    let is_map = c.map_of-map.ensures.map in
    let e : c.parent.result ≡ parent_in v.trail m = c.parent.ensures.value ∙ ap (λ (w : View). parent_in w.trail m) read in
    let found = has-parent laws v kept null c.self.invariant o there fast shared some m is_map in
    subst (λ (x : Option (Option ℕ)). IsSome x) (sym (e ∙ found.1)) refl

pub unwrap-parent-requires : goal.unwrap-parent-requires
unwrap-parent-requires g c =
    let v = c.self.inside.heap.view in
    let kept = c.self.inside.kept.items in
    let null = c.self.inside.of_null in
    let o = c.args.o in
    let there : o < length kept = within _ _ o c.self.view_is c.requires.object in
    let fast : kept_of kept o ≡ None = subst (λ (s : ObjectsState g.row.P.Denot). kept_of s.kept c.args.o ≡ None) (sym c.self.view_is) c.requires.fast in
    let laws : Laws = record { maps = c.maps_are_kept.ensures.law; details = c.details_rise.ensures.law; trees = c.trees_stay.ensures.law; unused = c.unused_says_nothing.ensures.law; gates = c.gates_are_open.ensures.law; changes = c.changes_keep.ensures.law } in
    let shared : (root_in v.trail o).is_proto ≡ false = subst (λ (s : ObjectsState g.row.P.Denot). (root_in s.heap.view.trail c.args.o).is_proto ≡ false) (sym c.self.view_is) c.requires.shared in
    let some : 0 < length (props_at (world v.trail kept) o) = subst (λ (s : ObjectsState g.row.P.Denot). 0 < length (props_at (world s.heap.view.trail s.kept) c.args.o)) (sym c.self.view_is) c.requires.some in
    let read : c.map_of-map.new.h.view ≡ v = ap (λ (s : HeapState g.row.P.Denot). s.view) c.map_of-map.ensures.new in
    let m = c.map_of-map.result in
    let is_map = c.map_of-map.ensures.map in
    let e : c.parent.result ≡ parent_in v.trail m = c.parent.ensures.value ∙ ap (λ (w : View). parent_in w.trail m) read in
    let found = has-parent laws v kept null c.self.invariant o there fast shared some m is_map in
    let inner : c.unwrap.result ≡ Some found.0 = some-is c.unwrap.result (Some found.0) (sym c.unwrap.ensures ∙ e ∙ found.1) in
    subst (λ (x : Option ℕ). IsSome x) (sym inner) refl

pub move_to_parent-requires-clause-handed : goal.move_to_parent-requires-clause-handed
move_to_parent-requires-clause-handed g c =
    let v = c.self.inside.heap.view in
    let kept = c.self.inside.kept.items in
    let null = c.self.inside.of_null in
    let o = c.args.o in
    let there : o < length kept = within _ _ o c.self.view_is c.requires.object in
    let fast : kept_of kept o ≡ None = subst (λ (s : ObjectsState g.row.P.Denot). kept_of s.kept c.args.o ≡ None) (sym c.self.view_is) c.requires.fast in
    let read : c.map_of-map.new.h.view ≡ v = ap (λ (s : HeapState g.row.P.Denot). s.view) c.map_of-map.ensures.new in
    let m = c.map_of-map.result in
    let is_map = c.map_of-map.ensures.map in
    let e : c.parent.result ≡ parent_in v.trail m = c.parent.ensures.value ∙ ap (λ (w : View). parent_in w.trail m) read in
    let again : c.parent.new.self.view ≡ v = ap (λ (s : HeapState g.row.P.Denot). s.view) c.parent.ensures.new ∙ read in
    let q = c.unwrap-parent.result in
    let is_parent : parent_in v.trail m ≡ Some (Some q) = sym e ∙ c.unwrap.ensures ∙ ap (λ (x : Option ℕ). Some x) c.unwrap-parent.ensures in
    let items = c.self.invariant.items in
    let here : o < v.used.objects = omega (arith, there, items) in
    subst (λ (w : View). o < w.used.objects) (sym again) here

pub move_to_parent-requires-clause-there : goal.move_to_parent-requires-clause-there
move_to_parent-requires-clause-there g c =
    let v = c.self.inside.heap.view in
    let kept = c.self.inside.kept.items in
    let null = c.self.inside.of_null in
    let o = c.args.o in
    let there : o < length kept = within _ _ o c.self.view_is c.requires.object in
    let fast : kept_of kept o ≡ None = subst (λ (s : ObjectsState g.row.P.Denot). kept_of s.kept c.args.o ≡ None) (sym c.self.view_is) c.requires.fast in
    let laws : Laws = record { maps = c.maps_are_kept.ensures.law; details = c.details_rise.ensures.law; trees = c.trees_stay.ensures.law; unused = c.unused_says_nothing.ensures.law; gates = c.gates_are_open.ensures.law; changes = c.changes_keep.ensures.law } in
    let shared : (root_in v.trail o).is_proto ≡ false = subst (λ (s : ObjectsState g.row.P.Denot). (root_in s.heap.view.trail c.args.o).is_proto ≡ false) (sym c.self.view_is) c.requires.shared in
    let some : 0 < length (props_at (world v.trail kept) o) = subst (λ (s : ObjectsState g.row.P.Denot). 0 < length (props_at (world s.heap.view.trail s.kept) c.args.o)) (sym c.self.view_is) c.requires.some in
    let read : c.map_of-map.new.h.view ≡ v = ap (λ (s : HeapState g.row.P.Denot). s.view) c.map_of-map.ensures.new in
    let m = c.map_of-map.result in
    let is_map = c.map_of-map.ensures.map in
    let e : c.parent.result ≡ parent_in v.trail m = c.parent.ensures.value ∙ ap (λ (w : View). parent_in w.trail m) read in
    let again : c.parent.new.self.view ≡ v = ap (λ (s : HeapState g.row.P.Denot). s.view) c.parent.ensures.new ∙ read in
    let q = c.unwrap-parent.result in
    let is_parent : parent_in v.trail m ≡ Some (Some q) = sym e ∙ c.unwrap.ensures ∙ ap (λ (x : Option ℕ). Some x) c.unwrap-parent.ensures in
    subst (λ (w : View). m < w.used.maps) (sym again) (map-there laws v kept null c.self.invariant o there fast shared some m is_map)

pub move_to_parent-requires-clause-parent_there : goal.move_to_parent-requires-clause-parent_there
move_to_parent-requires-clause-parent_there g c =
    let v = c.self.inside.heap.view in
    let kept = c.self.inside.kept.items in
    let null = c.self.inside.of_null in
    let o = c.args.o in
    let there : o < length kept = within _ _ o c.self.view_is c.requires.object in
    let fast : kept_of kept o ≡ None = subst (λ (s : ObjectsState g.row.P.Denot). kept_of s.kept c.args.o ≡ None) (sym c.self.view_is) c.requires.fast in
    let laws : Laws = record { maps = c.maps_are_kept.ensures.law; details = c.details_rise.ensures.law; trees = c.trees_stay.ensures.law; unused = c.unused_says_nothing.ensures.law; gates = c.gates_are_open.ensures.law; changes = c.changes_keep.ensures.law } in
    let shared : (root_in v.trail o).is_proto ≡ false = subst (λ (s : ObjectsState g.row.P.Denot). (root_in s.heap.view.trail c.args.o).is_proto ≡ false) (sym c.self.view_is) c.requires.shared in
    let some : 0 < length (props_at (world v.trail kept) o) = subst (λ (s : ObjectsState g.row.P.Denot). 0 < length (props_at (world s.heap.view.trail s.kept) c.args.o)) (sym c.self.view_is) c.requires.some in
    let read : c.map_of-map.new.h.view ≡ v = ap (λ (s : HeapState g.row.P.Denot). s.view) c.map_of-map.ensures.new in
    let m = c.map_of-map.result in
    let is_map = c.map_of-map.ensures.map in
    let e : c.parent.result ≡ parent_in v.trail m = c.parent.ensures.value ∙ ap (λ (w : View). parent_in w.trail m) read in
    let again : c.parent.new.self.view ≡ v = ap (λ (s : HeapState g.row.P.Denot). s.view) c.parent.ensures.new ∙ read in
    let q = c.unwrap-parent.result in
    let is_parent : parent_in v.trail m ≡ Some (Some q) = sym e ∙ c.unwrap.ensures ∙ ap (λ (x : Option ℕ). Some x) c.unwrap-parent.ensures in
    subst (λ (w : View). q < w.shape.maps) (sym again) (parent-there laws v kept null c.self.invariant o there fast shared some m q is_map is_parent)

pub move_to_parent-requires-clause-filled : goal.move_to_parent-requires-clause-filled
move_to_parent-requires-clause-filled g c =
    let v = c.self.inside.heap.view in
    let kept = c.self.inside.kept.items in
    let null = c.self.inside.of_null in
    let o = c.args.o in
    let there : o < length kept = within _ _ o c.self.view_is c.requires.object in
    let fast : kept_of kept o ≡ None = subst (λ (s : ObjectsState g.row.P.Denot). kept_of s.kept c.args.o ≡ None) (sym c.self.view_is) c.requires.fast in
    let laws : Laws = record { maps = c.maps_are_kept.ensures.law; details = c.details_rise.ensures.law; trees = c.trees_stay.ensures.law; unused = c.unused_says_nothing.ensures.law; gates = c.gates_are_open.ensures.law; changes = c.changes_keep.ensures.law } in
    let shared : (root_in v.trail o).is_proto ≡ false = subst (λ (s : ObjectsState g.row.P.Denot). (root_in s.heap.view.trail c.args.o).is_proto ≡ false) (sym c.self.view_is) c.requires.shared in
    let some : 0 < length (props_at (world v.trail kept) o) = subst (λ (s : ObjectsState g.row.P.Denot). 0 < length (props_at (world s.heap.view.trail s.kept) c.args.o)) (sym c.self.view_is) c.requires.some in
    let read : c.map_of-map.new.h.view ≡ v = ap (λ (s : HeapState g.row.P.Denot). s.view) c.map_of-map.ensures.new in
    let m = c.map_of-map.result in
    let is_map = c.map_of-map.ensures.map in
    let e : c.parent.result ≡ parent_in v.trail m = c.parent.ensures.value ∙ ap (λ (w : View). parent_in w.trail m) read in
    let again : c.parent.new.self.view ≡ v = ap (λ (s : HeapState g.row.P.Denot). s.view) c.parent.ensures.new ∙ read in
    let q = c.unwrap-parent.result in
    let is_parent : parent_in v.trail m ≡ Some (Some q) = sym e ∙ c.unwrap.ensures ∙ ap (λ (x : Option ℕ). Some x) c.unwrap-parent.ensures in
    subst (λ (w : View). IsSomeAnd (gate_in w.trail q) (λ x. HoldsEntries w.trail o q x)) (sym again) (parent-filled laws v kept null c.self.invariant o there fast shared some m q is_map is_parent)

pub invariant_of-self : goal.invariant_of-self
invariant_of-self g c =
    let v = c.self.inside.heap.view in
    let kept = c.self.inside.kept.items in
    let null = c.self.inside.of_null in
    let o = c.args.o in
    let there : o < length kept = within _ _ o c.self.view_is c.requires.object in
    let fast : kept_of kept o ≡ None = subst (λ (s : ObjectsState g.row.P.Denot). kept_of s.kept c.args.o ≡ None) (sym c.self.view_is) c.requires.fast in
    let laws : Laws = record { maps = c.maps_are_kept.ensures.law; details = c.details_rise.ensures.law; trees = c.trees_stay.ensures.law; unused = c.unused_says_nothing.ensures.law; gates = c.gates_are_open.ensures.law; changes = c.changes_keep.ensures.law } in
    let shared : (root_in v.trail o).is_proto ≡ false = subst (λ (s : ObjectsState g.row.P.Denot). (root_in s.heap.view.trail c.args.o).is_proto ≡ false) (sym c.self.view_is) c.requires.shared in
    let some : 0 < length (props_at (world v.trail kept) o) = subst (λ (s : ObjectsState g.row.P.Denot). 0 < length (props_at (world s.heap.view.trail s.kept) c.args.o)) (sym c.self.view_is) c.requires.some in
    let read : c.map_of-map.new.h.view ≡ v = ap (λ (s : HeapState g.row.P.Denot). s.view) c.map_of-map.ensures.new in
    let m = c.map_of-map.result in
    let is_map = c.map_of-map.ensures.map in
    let e : c.parent.result ≡ parent_in v.trail m = c.parent.ensures.value ∙ ap (λ (w : View). parent_in w.trail m) read in
    let again : c.parent.new.self.view ≡ v = ap (λ (s : HeapState g.row.P.Denot). s.view) c.parent.ensures.new ∙ read in
    let q = c.unwrap-parent.result in
    let is_parent : parent_in v.trail m ≡ Some (Some q) = sym e ∙ c.unwrap.ensures ∙ ap (λ (x : Option ℕ). Some x) c.unwrap-parent.ensures in
    let new = c.move_to_parent.new.h.view in
    let is : new ≡ record v { trail = ObjectMap o (Some q) ∷ marked v.trail m } = c.move_to_parent.ensures.view ∙ ap (λ (w : View). let x : View = record w { trail = ObjectMap o (Some q) ∷ marked w.trail m } in x) again in
    let marked_tree : IsTree (marked v.trail m) = subst (λ (w : View). IsTree (marked w.trail m)) again c.move_to_parent.ensures.marked_tree in
    let marked_heap : IsHeap (record v { trail = marked v.trail m }) = subst (λ (w : View). IsHeap (record w { trail = marked w.trail m })) again c.move_to_parent.ensures.marked_heap in
    let last : length (props_at (world v.trail kept) o) ≡ (length (props_at (world v.trail kept) o) - 1) + 1 = omega (arith, some) in
    shrunk-sound laws v kept null c.self.invariant o there fast shared some m q is_map is_parent (length (props_at (world v.trail kept) o) - 1) last new is marked_tree marked_heap c.move_to_parent.ensures.heap

pub returns-clause-steps : goal.returns-clause-steps
returns-clause-steps g c =
    let v = c.self.inside.heap.view in
    let kept = c.self.inside.kept.items in
    let null = c.self.inside.of_null in
    let o = c.args.o in
    let there : o < length kept = within _ _ o c.self.view_is c.requires.object in
    let fast : kept_of kept o ≡ None = subst (λ (s : ObjectsState g.row.P.Denot). kept_of s.kept c.args.o ≡ None) (sym c.self.view_is) c.requires.fast in
    let laws : Laws = record { maps = c.maps_are_kept.ensures.law; details = c.details_rise.ensures.law; trees = c.trees_stay.ensures.law; unused = c.unused_says_nothing.ensures.law; gates = c.gates_are_open.ensures.law; changes = c.changes_keep.ensures.law } in
    let shared : (root_in v.trail o).is_proto ≡ false = subst (λ (s : ObjectsState g.row.P.Denot). (root_in s.heap.view.trail c.args.o).is_proto ≡ false) (sym c.self.view_is) c.requires.shared in
    let some : 0 < length (props_at (world v.trail kept) o) = subst (λ (s : ObjectsState g.row.P.Denot). 0 < length (props_at (world s.heap.view.trail s.kept) c.args.o)) (sym c.self.view_is) c.requires.some in
    let read : c.map_of-map.new.h.view ≡ v = ap (λ (s : HeapState g.row.P.Denot). s.view) c.map_of-map.ensures.new in
    let m = c.map_of-map.result in
    let is_map = c.map_of-map.ensures.map in
    let e : c.parent.result ≡ parent_in v.trail m = c.parent.ensures.value ∙ ap (λ (w : View). parent_in w.trail m) read in
    let again : c.parent.new.self.view ≡ v = ap (λ (s : HeapState g.row.P.Denot). s.view) c.parent.ensures.new ∙ read in
    let q = c.unwrap-parent.result in
    let is_parent : parent_in v.trail m ≡ Some (Some q) = sym e ∙ c.unwrap.ensures ∙ ap (λ (x : Option ℕ). Some x) c.unwrap-parent.ensures in
    let new = c.move_to_parent.new.h.view in
    let is : new ≡ record v { trail = ObjectMap o (Some q) ∷ marked v.trail m } = c.move_to_parent.ensures.view ∙ ap (λ (w : View). let x : View = record w { trail = ObjectMap o (Some q) ∷ marked w.trail m } in x) again in
    let marked_tree : IsTree (marked v.trail m) = subst (λ (w : View). IsTree (marked w.trail m)) again c.move_to_parent.ensures.marked_tree in
    let marked_heap : IsHeap (record v { trail = marked v.trail m }) = subst (λ (w : View). IsHeap (record w { trail = marked w.trail m })) again c.move_to_parent.ensures.marked_heap in
    let first = c.self.inside.heap in
    let then : ObjectsState g.row.P.Denot = record { heap = c.move_to_parent.new.h; kept = kept; of_null = null } in
    subst (λ (s : ObjectsState g.row.P.Denot). (i : ℕ) → length (props_at (world s.heap.view.trail s.kept) c.args.o) ≡ i + 1 → Steps g.P.Pace.went s (Removed c.args.o i) then) c.self.view_is
    (λ i last. record {
      world = shrunk-world laws v kept null c.self.invariant o there fast shared some m q is_map is_parent i last new is marked_tree marked_heap c.move_to_parent.ensures.heap;
      shape = ap (λ (w : View). w.shape) is;
      goes = goes-on first.desk c.map_of-map.new.h.desk c.move_to_parent.new.h.desk c.map_of-map.ensures.goes (goes-on c.map_of-map.new.h.desk c.parent.new.self.desk c.move_to_parent.new.h.desk c.parent.ensures.goes c.move_to_parent.ensures.goes);
      went = g.met.P.Pace.goes_on _ _ _ _ _ _ c.map_of-map.ensures.went (g.met.P.Pace.goes_on _ _ _ _ _ _ c.parent.ensures.went c.move_to_parent.ensures.went);
      keeps = shrunk-facts laws v kept null c.self.invariant o there fast shared some m q is_map is_parent i last new is marked_tree marked_heap c.move_to_parent.ensures.heap
          c.forms_are_kept.ensures.law c.stable_is_kept.ensures.law c.honest_after.ensures.law c.kept_is_carried.ensures.law c.moved_is_carried.ensures.law;
    })

pub returns-clause-marks : goal.returns-clause-marks
returns-clause-marks g c =
    let v = c.self.inside.heap.view in
    let kept = c.self.inside.kept.items in
    let null = c.self.inside.of_null in
    let o = c.args.o in
    let there : o < length kept = within _ _ o c.self.view_is c.requires.object in
    let fast : kept_of kept o ≡ None = subst (λ (s : ObjectsState g.row.P.Denot). kept_of s.kept c.args.o ≡ None) (sym c.self.view_is) c.requires.fast in
    let laws : Laws = record { maps = c.maps_are_kept.ensures.law; details = c.details_rise.ensures.law; trees = c.trees_stay.ensures.law; unused = c.unused_says_nothing.ensures.law; gates = c.gates_are_open.ensures.law; changes = c.changes_keep.ensures.law } in
    let shared : (root_in v.trail o).is_proto ≡ false = subst (λ (s : ObjectsState g.row.P.Denot). (root_in s.heap.view.trail c.args.o).is_proto ≡ false) (sym c.self.view_is) c.requires.shared in
    let some : 0 < length (props_at (world v.trail kept) o) = subst (λ (s : ObjectsState g.row.P.Denot). 0 < length (props_at (world s.heap.view.trail s.kept) c.args.o)) (sym c.self.view_is) c.requires.some in
    let read : c.map_of-map.new.h.view ≡ v = ap (λ (s : HeapState g.row.P.Denot). s.view) c.map_of-map.ensures.new in
    let m = c.map_of-map.result in
    let is_map = c.map_of-map.ensures.map in
    let e : c.parent.result ≡ parent_in v.trail m = c.parent.ensures.value ∙ ap (λ (w : View). parent_in w.trail m) read in
    let again : c.parent.new.self.view ≡ v = ap (λ (s : HeapState g.row.P.Denot). s.view) c.parent.ensures.new ∙ read in
    let q = c.unwrap-parent.result in
    let is_parent : parent_in v.trail m ≡ Some (Some q) = sym e ∙ c.unwrap.ensures ∙ ap (λ (x : Option ℕ). Some x) c.unwrap-parent.ensures in
    let new = c.move_to_parent.new.h.view in
    let is : new ≡ record v { trail = ObjectMap o (Some q) ∷ marked v.trail m } = c.move_to_parent.ensures.view ∙ ap (λ (w : View). let x : View = record w { trail = ObjectMap o (Some q) ∷ marked w.trail m } in x) again in
    subst (λ (s : ObjectsState g.row.P.Denot). Marks s.heap.view.trail new.trail o) c.self.view_is
    (left-marks v new o m (Some q) is is_map (parent-other laws v kept null c.self.invariant o there fast shared some m q is_map is_parent) (inl shared))

pub returns-clause-details : goal.returns-clause-details
returns-clause-details g c =
    let v = c.self.inside.heap.view in
    let o = c.args.o in
    let m = c.map_of-map.result in
    let q = c.unwrap-parent.result in
    let again : c.parent.new.self.view ≡ v = ap (λ (s : HeapState g.row.P.Denot). s.view) c.parent.ensures.new ∙ ap (λ (s : HeapState g.row.P.Denot). s.view) c.map_of-map.ensures.new in
    let new = c.move_to_parent.new.h.view in
    let is : new ≡ record v { trail = ObjectMap o (Some q) ∷ marked v.trail m } = c.move_to_parent.ensures.view ∙ ap (λ (w : View). let x : View = record w { trail = ObjectMap o (Some q) ∷ marked w.trail m } in x) again in
    subst (λ (s : ObjectsState g.row.P.Denot). DetailsAre GetsNothing s.heap.view.trail new.trail) c.self.view_is
    (details-none (λ f. ap (λ (w : View). detail_in w.trail f) is ∙ marked-detail v.trail m f))
