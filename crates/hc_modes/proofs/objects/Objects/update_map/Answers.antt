use Rattle.std.proofs.Common.{◌≡◌, ◌∙◌, ◌<◌, ℕ, Bool, true, false, refl, None, Some, length, ap, sym, subst}
use Rattle.std.specs.Prelude.{IsSome, IsTrue}
use Rattle.hc_heap.specs.Frames.{goes-on}
use Rattle.hc_heap.specs.Lawful.{HoldsEntries}
use Rattle.hc_heap.specs.Readings.{bits_in, gate_in, map_in, prototype_in, root_in, store_in}
use Rattle.hc_heap.specs.States.{HeapState, View}
use Rattle.hc_tree.specs.Growth.{root_of}
use Rattle.hc_tree.specs.Needs.{HasSpace, walk_need}
use Rattle.hc_tree.specs.Tree.{IsRoot, IsTree, gate_with}
use Rattle.hc_update.specs.Updating.{IsSomeRoot}
use Rattle.hc_facts.specs.Honest.{IsHonest}
use Rattle.hc_slots.specs.Cases.{some-is}
use Rattle.hc_slots.specs.Slots.{AreHandedOut}
use Rattle.hc_modes.specs.Came.{HasMigrated}
use Rattle.hc_modes.specs.Meaning.{kept_of}
use Rattle.hc_modes.specs.Resettled.{IsUpdatedFor}
use Rattle.hc_modes.specs.State.{IsObjects, ObjectsState}
use Rattle.hc_modes.proofs.Replaced.{migrated, migrated-sound, opened, ready-of}
use Rattle.hc_modes.proofs.Shown.{fast-has, within}
use Rattle.hc_modes.proofs.objects.Objects.update_map.Goals as goal

pub map_of-map-requires : goal.map_of-map-requires
map_of-map-requires g c = record { fast = fast-has _ _ c.args.o c.self.view_is c.requires.object c.self.invariant c.requires.fast }

pub unwrap-proto-requires : goal.unwrap-proto-requires
unwrap-proto-requires g c =
    let v = c.self.inside.heap.view in
    let first : c.map_of-map.new.h.view ≡ v = ap (λ (s : HeapState g.row.P.Denot). s.view) c.map_of-map.ensures.new in
    let second : c.gate.new.self.view ≡ v = ap (λ (s : HeapState g.row.P.Denot). s.view) c.gate.ensures.new ∙ first in
    let gate : gate_in v.trail c.map_of-map.result ≡ Some c.unwrap-n.result = ap (λ (w : View). gate_in w.trail c.map_of-map.result) (sym first) ∙ (sym c.gate.ensures.value ∙ c.unwrap-n.ensures) in
    subst IsSome (sym (c.proto.ensures.value ∙ ap (λ (w : View). prototype_in w.trail c.map_of-map.result) second)) (c.gates_are_open.ensures.law v.shape v.trail c.map_of-map.result c.unwrap-n.result c.self.invariant.heap.lawful gate).prototype

pub unwrap-root-requires : goal.unwrap-root-requires
unwrap-root-requires g c =
    let v = c.self.inside.heap.view in
    let o = c.args.o in
    let m = c.map_of-map.result in
    let first : c.map_of-map.new.h.view ≡ v = ap (λ (s : HeapState g.row.P.Denot). s.view) c.map_of-map.ensures.new in
    let second : c.gate.new.self.view ≡ v = ap (λ (s : HeapState g.row.P.Denot). s.view) c.gate.ensures.new ∙ first in
    let third : c.proto.new.self.view ≡ v = ap (λ (s : HeapState g.row.P.Denot). s.view) c.proto.ensures.new ∙ second in
    let gate : gate_in v.trail m ≡ Some c.unwrap-n.result = ap (λ (w : View). gate_in w.trail m) (sym first) ∙ (sym c.gate.ensures.value ∙ c.unwrap-n.ensures) in
    let prototype : prototype_in v.trail m ≡ Some c.unwrap-proto.result = ap (λ (w : View). prototype_in w.trail m) (sym second) ∙ (sym c.proto.ensures.value ∙ c.unwrap-proto.ensures) in
    let ready = ready-of c.deprecated_are_unstable.ensures.law c.roots_stand.ensures.law _ _ o c.self.view_is c.requires.object c.self.invariant c.requires.fast c.requires.dead c.requires.calm m c.unwrap-n.result c.unwrap-proto.result c.map_of-map.ensures.map gate prototype in
    subst IsSome (sym (c.known_root.ensures.value ∙ (ap (λ (w : View). root_of w.trail c.unwrap-proto.result c.self.inside.of_null) third ∙ ready.known))) refl

pub update_object-requires : goal.update_object-requires
update_object-requires g c =
    let v = c.self.inside.heap.view in
    let o = c.args.o in
    let m = c.map_of-map.result in
    let first : c.map_of-map.new.h.view ≡ v = ap (λ (s : HeapState g.row.P.Denot). s.view) c.map_of-map.ensures.new in
    let second : c.gate.new.self.view ≡ v = ap (λ (s : HeapState g.row.P.Denot). s.view) c.gate.ensures.new ∙ first in
    let third : c.proto.new.self.view ≡ v = ap (λ (s : HeapState g.row.P.Denot). s.view) c.proto.ensures.new ∙ second in
    let gate : gate_in v.trail m ≡ Some c.unwrap-n.result = ap (λ (w : View). gate_in w.trail m) (sym first) ∙ (sym c.gate.ensures.value ∙ c.unwrap-n.ensures) in
    let prototype : prototype_in v.trail m ≡ Some c.unwrap-proto.result = ap (λ (w : View). prototype_in w.trail m) (sym second) ∙ (sym c.proto.ensures.value ∙ c.unwrap-proto.ensures) in
    let ready = ready-of c.deprecated_are_unstable.ensures.law c.roots_stand.ensures.law _ _ o c.self.view_is c.requires.object c.self.invariant c.requires.fast c.requires.dead c.requires.calm m c.unwrap-n.result c.unwrap-proto.result c.map_of-map.ensures.map gate prototype in
    let known : root_of v.trail c.unwrap-proto.result c.self.inside.of_null ≡ Some c.unwrap-root.result = ap (λ (w : View). root_of w.trail c.unwrap-proto.result c.self.inside.of_null) (sym third) ∙ (sym c.known_root.ensures.value ∙ c.unwrap-root.ensures) in
    let same : ready.root ≡ c.unwrap-root.result = some-is ready.root c.unwrap-root.result (sym ready.known ∙ known) in
    let fourth : c.known_root.new.h.view ≡ v = ap (λ (s : HeapState g.row.P.Denot). s.view) c.known_root.ensures.still ∙ third in
    let back : (Q : View → Type 0) → Q v → Q c.known_root.new.h.view = λ Q q. subst Q (sym fourth) q in
    record {
      tree = back (λ w. IsTree w.trail) c.self.invariant.tree;
      honest = back (λ w. IsHonest w.trail) (subst (λ (s : ObjectsState g.row.P.Denot). IsHonest s.heap.view.trail) (sym c.self.view_is) c.requires.honest);
      has = back (λ w. map_in w.trail o ≡ Some m) c.map_of-map.ensures.map;
      «open» = back (λ w. gate_in w.trail m ≡ Some (gate_with c.unwrap-n.result.entries false)) ready.fast.is_open;
      dead = back (λ w. IsTrue (bits_in w.trail m).deprecated) (subst (λ (s : ObjectsState g.row.P.Denot). (k : ℕ) → map_in s.heap.view.trail o ≡ Some k → IsTrue (bits_in s.heap.view.trail k).deprecated) (sym c.self.view_is) c.requires.dead m c.map_of-map.ensures.map);
      holds = back (λ w. HoldsEntries w.trail o m (gate_with c.unwrap-n.result.entries false)) (record { capacity = ready.fast.holds.capacity; slots = ready.fast.holds.slots });
      shared = back (λ w. (root_in w.trail o).is_proto ≡ false) ready.shared;
      out = back (λ w. AreHandedOut w.used.slots (store_in w.trail o)) (c.self.invariant.stores o);
      handed = back (λ w. o < w.used.objects) ready.handed;
      root = back (λ w. IsSomeRoot w.trail c.unwrap-root.result) (subst (λ (r : ℕ). IsSomeRoot v.trail r) same (record { prototype = c.unwrap-proto.result; root = ready.is_root }));
    }

pub invariant_of-self : goal.invariant_of-self
invariant_of-self g c =
    let v = c.self.inside.heap.view in
    let o = c.args.o in
    let m = c.map_of-map.result in
    let first : c.map_of-map.new.h.view ≡ v = ap (λ (s : HeapState g.row.P.Denot). s.view) c.map_of-map.ensures.new in
    let second : c.gate.new.self.view ≡ v = ap (λ (s : HeapState g.row.P.Denot). s.view) c.gate.ensures.new ∙ first in
    let third : c.proto.new.self.view ≡ v = ap (λ (s : HeapState g.row.P.Denot). s.view) c.proto.ensures.new ∙ second in
    let gate : gate_in v.trail m ≡ Some c.unwrap-n.result = ap (λ (w : View). gate_in w.trail m) (sym first) ∙ (sym c.gate.ensures.value ∙ c.unwrap-n.ensures) in
    let prototype : prototype_in v.trail m ≡ Some c.unwrap-proto.result = ap (λ (w : View). prototype_in w.trail m) (sym second) ∙ (sym c.proto.ensures.value ∙ c.unwrap-proto.ensures) in
    let ready = ready-of c.deprecated_are_unstable.ensures.law c.roots_stand.ensures.law _ _ o c.self.view_is c.requires.object c.self.invariant c.requires.fast c.requires.dead c.requires.calm m c.unwrap-n.result c.unwrap-proto.result c.map_of-map.ensures.map gate prototype in
    let known : root_of v.trail c.unwrap-proto.result c.self.inside.of_null ≡ Some c.unwrap-root.result = ap (λ (w : View). root_of w.trail c.unwrap-proto.result c.self.inside.of_null) (sym third) ∙ (sym c.known_root.ensures.value ∙ c.unwrap-root.ensures) in
    let same : ready.root ≡ c.unwrap-root.result = some-is ready.root c.unwrap-root.result (sym ready.known ∙ known) in
    let fourth : c.known_root.new.h.view ≡ v = ap (λ (s : HeapState g.row.P.Denot). s.view) c.known_root.ensures.still ∙ third in
    let there : o < length c.self.inside.kept.items = within _ _ o c.self.view_is c.requires.object in
    let fast : kept_of c.self.inside.kept.items o ≡ None = subst (λ (s : ObjectsState g.row.P.Denot). kept_of s.kept o ≡ None) (sym c.self.view_is) c.requires.fast in
    let root : IsRoot v.trail c.unwrap-proto.result c.unwrap-root.result = subst (λ (r : ℕ). IsRoot v.trail c.unwrap-proto.result r) same ready.is_root in
    let a : ObjectsState g.row.P.Denot = record { heap = c.self.inside.heap; kept = c.self.inside.kept.items; of_null = c.self.inside.of_null } in
    by c.update_object.result
    (λ yes. migrated-sound c.maps_are_kept.ensures.law c.details_rise.ensures.law c.set_is_kept.ensures.law c.unused_says_nothing.ensures.law c.forms_are_kept.ensures.law c.stable_is_kept.ensures.law c.honest_after.ensures.law c.kept_is_carried.ensures.law c.moved_is_carried.ensures.law
    g.P.Pace.went a c.update_object.new.h c.self.invariant o there fast m c.unwrap-n.result.entries c.unwrap-root.result c.unwrap-proto.result c.map_of-map.ensures.map (opened (gate_in v.trail m) c.unwrap-n.result gate) ready.shared ready.unstable prototype known root.prototype
    (subst (λ (w : View). IsUpdatedFor w c.update_object.new.h.view o m c.unwrap-n.result.entries c.unwrap-root.result) fourth (c.update_object.ensures.updated yes)))
    (λ no. subst (λ (w : View). IsObjects w c.self.inside.kept.items c.self.inside.of_null) (sym (ap (λ (s : HeapState g.row.P.Denot). s.view) (c.update_object.ensures.still no) ∙ fourth)) c.self.invariant)
  where
    by : {C : Type 0} (b : Bool) → (IsTrue b → C) → (b ≡ false → C) → C
    by true f k = f refl
    by false f k = k refl

pub returns-clause-migrated : goal.returns-clause-migrated
returns-clause-migrated g c = λ yes.
    let v = c.self.inside.heap.view in
    let o = c.args.o in
    let m = c.map_of-map.result in
    let first : c.map_of-map.new.h.view ≡ v = ap (λ (s : HeapState g.row.P.Denot). s.view) c.map_of-map.ensures.new in
    let second : c.gate.new.self.view ≡ v = ap (λ (s : HeapState g.row.P.Denot). s.view) c.gate.ensures.new ∙ first in
    let third : c.proto.new.self.view ≡ v = ap (λ (s : HeapState g.row.P.Denot). s.view) c.proto.ensures.new ∙ second in
    let gate : gate_in v.trail m ≡ Some c.unwrap-n.result = ap (λ (w : View). gate_in w.trail m) (sym first) ∙ (sym c.gate.ensures.value ∙ c.unwrap-n.ensures) in
    let prototype : prototype_in v.trail m ≡ Some c.unwrap-proto.result = ap (λ (w : View). prototype_in w.trail m) (sym second) ∙ (sym c.proto.ensures.value ∙ c.unwrap-proto.ensures) in
    let ready = ready-of c.deprecated_are_unstable.ensures.law c.roots_stand.ensures.law _ _ o c.self.view_is c.requires.object c.self.invariant c.requires.fast c.requires.dead c.requires.calm m c.unwrap-n.result c.unwrap-proto.result c.map_of-map.ensures.map gate prototype in
    let known : root_of v.trail c.unwrap-proto.result c.self.inside.of_null ≡ Some c.unwrap-root.result = ap (λ (w : View). root_of w.trail c.unwrap-proto.result c.self.inside.of_null) (sym third) ∙ (sym c.known_root.ensures.value ∙ c.unwrap-root.ensures) in
    let same : ready.root ≡ c.unwrap-root.result = some-is ready.root c.unwrap-root.result (sym ready.known ∙ known) in
    let fourth : c.known_root.new.h.view ≡ v = ap (λ (s : HeapState g.row.P.Denot). s.view) c.known_root.ensures.still ∙ third in
    let there : o < length c.self.inside.kept.items = within _ _ o c.self.view_is c.requires.object in
    let fast : kept_of c.self.inside.kept.items o ≡ None = subst (λ (s : ObjectsState g.row.P.Denot). kept_of s.kept o ≡ None) (sym c.self.view_is) c.requires.fast in
    let root : IsRoot v.trail c.unwrap-proto.result c.unwrap-root.result = subst (λ (r : ℕ). IsRoot v.trail c.unwrap-proto.result r) same ready.is_root in
    let dead : IsTrue (bits_in v.trail m).deprecated = subst (λ (s : ObjectsState g.row.P.Denot). (k : ℕ) → map_in s.heap.view.trail o ≡ Some k → IsTrue (bits_in s.heap.view.trail k).deprecated) (sym c.self.view_is) c.requires.dead m c.map_of-map.ensures.map in
    let a : ObjectsState g.row.P.Denot = record { heap = c.self.inside.heap; kept = c.self.inside.kept.items; of_null = c.self.inside.of_null } in
    let after : ObjectsState g.row.P.Denot = record { heap = c.update_object.new.h; kept = c.self.inside.kept.items; of_null = c.self.inside.of_null } in
    let on = g.met.P.Pace.goes_on in
    subst (λ (s : ObjectsState g.row.P.Denot). HasMigrated g.P.Pace.went s o after) c.self.view_is
    (migrated c.maps_are_kept.ensures.law c.details_rise.ensures.law c.set_is_kept.ensures.law c.unused_says_nothing.ensures.law c.forms_are_kept.ensures.law c.stable_is_kept.ensures.law c.honest_after.ensures.law c.kept_is_carried.ensures.law c.moved_is_carried.ensures.law
    g.P.Pace.went a c.update_object.new.h c.self.invariant o there fast m c.unwrap-n.result.entries c.unwrap-root.result c.unwrap-proto.result c.map_of-map.ensures.map (opened (gate_in v.trail m) c.unwrap-n.result gate) ready.shared ready.unstable prototype known root.prototype
    (subst (λ (w : View). IsUpdatedFor w c.update_object.new.h.view o m c.unwrap-n.result.entries c.unwrap-root.result) fourth (c.update_object.ensures.updated yes))
    dead (subst (λ (w : View). HasSpace w (walk_need c.unwrap-n.result.entries)) fourth (c.update_object.ensures.room.0 yes))
    (goes-on c.self.inside.heap.desk c.map_of-map.new.h.desk c.update_object.new.h.desk c.map_of-map.ensures.goes
    (goes-on c.map_of-map.new.h.desk c.gate.new.self.desk c.update_object.new.h.desk c.gate.ensures.goes
    (goes-on c.gate.new.self.desk c.proto.new.self.desk c.update_object.new.h.desk c.proto.ensures.goes
    (goes-on c.proto.new.self.desk c.known_root.new.h.desk c.update_object.new.h.desk c.known_root.ensures.goes c.update_object.ensures.goes))))
    (on _ _ _ _ _ _ c.map_of-map.ensures.went (on _ _ _ _ _ _ c.gate.ensures.went (on _ _ _ _ _ _ c.proto.ensures.went (on _ _ _ _ _ _ c.known_root.ensures.went c.update_object.ensures.went)))))
