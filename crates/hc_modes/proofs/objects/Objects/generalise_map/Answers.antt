use Rattle.std.proofs.Common.{◌≡◌, ◌∙◌, ◌<◌, ℕ, false, refl, None, Some, Option, length, ap, sym, subst, arith}
use Rattle.std.specs.Prelude.{IsSomeAnd}
use Rattle.hc_layout.specs.declared.words.GateWord.{GateWord}
use Rattle.hc_value.specs.Field.{joined_detail}
use Rattle.hc_value.specs.Prop.{kind_of}
use Rattle.hc_value.specs.declared.field.Detail.{Detail}
use Rattle.hc_heap.specs.Frames.{goes-on}
use Rattle.hc_heap.specs.Lawful.{IsClassThere, slot_word}
use Rattle.hc_heap.specs.Readings.{bits_in, gate_in, map_in, store_in}
use Rattle.hc_heap.specs.States.{HeapState, View}
use Rattle.hc_descs.specs.Entries.{detail_at}
use Rattle.hc_facts.specs.Honest.{IsHonest}
use Rattle.hc_table.specs.Changes.{kind_at}
use Rattle.hc_table.specs.World.{props_at}
use Rattle.hc_tree.specs.Growth.{marked}
use Rattle.hc_tree.specs.Needs.{HasSpace}
use Rattle.hc_tree.specs.Tree.{IsTree}
use Rattle.hc_tree.specs.Walking.{IsDetail}
use Rattle.hc_tree.specs.declared.need.Need.{Need}
use Rattle.hc_update.specs.Renewing.{generalise_need}
use Rattle.hc_slots.specs.Cases.{some-is}
use Rattle.hc_slots.specs.Fast.{HasMap}
use Rattle.hc_slots.specs.Meaning.{IsConstnessFor, held_in}
use Rattle.hc_slots.specs.Slots.{AreHandedOut}
use Rattle.hc_modes.specs.Admitting.{FitsField, held_detail}
use Rattle.hc_modes.specs.Came.{HasGeneralised, LacksStore, world_of}
use Rattle.hc_modes.specs.Meaning.{kept_of, world}
use Rattle.hc_modes.specs.Replaced.{IsAskedFor}
use Rattle.hc_modes.specs.Resettled.{IsGeneralisedFor}
use Rattle.hc_modes.specs.State.{IsLive, ObjectsState}
use Rattle.hc_modes.proofs.Left.{marked-same}
use Rattle.hc_modes.proofs.Outgrown.{asked-for, entry-of, fits-joined, wanted-here}
use Rattle.hc_modes.proofs.Replaced.{generalised, generalised-sound, opened}
use Rattle.hc_modes.proofs.Shown.{fast-has, within}
use Rattle.hc_modes.proofs.objects.Objects.generalise_map.Goals as goal

pub map_of-map-requires : goal.map_of-map-requires
map_of-map-requires g c = record { fast = fast-has _ _ c.args.o c.self.view_is c.requires.object c.self.invariant c.requires.fast }

pub need_to_generalise-requires : goal.need_to_generalise-requires
need_to_generalise-requires g c =
    let v = c.self.inside.heap.view in
    let kept = c.self.inside.kept.items in
    let o = c.args.o in
    let i = c.args.i in
    let m = c.map_of-map.result in
    let there : o < length kept = within _ _ o c.self.view_is c.requires.object in
    let fast : kept_of kept o ≡ None = subst (λ (s : ObjectsState g.row.P.Denot). kept_of s.kept o ≡ None) (sym c.self.view_is) c.requires.fast in
    let kind : kind_at (props_at (world v.trail kept) o) i ≡ Some (kind_of c.args.held) = subst (λ (s : ObjectsState g.row.P.Denot). kind_at (props_at (world_of s) o) i ≡ Some (kind_of c.args.held)) (sym c.self.view_is) c.requires.kind in
    let first : c.map_of-map.new.h.view ≡ v = ap (λ (s : HeapState g.row.P.Denot). s.view) c.map_of-map.ensures.new in
    let gate : gate_in v.trail m ≡ Some c.unwrap-gate.result = ap (λ (w : View). gate_in w.trail m) (sym first) ∙ (sym c.gate.ensures.value ∙ c.unwrap-gate.ensures) in
    let entry : i < c.unwrap-gate.result.entries = subst (λ (x : Option GateWord). IsSomeAnd x (λ y. i < y.entries)) gate (entry-of v kept c.self.inside.of_null c.self.invariant o there fast i c.args.held kind m c.map_of-map.ensures.map) in
    record { few = (c.gates_are_open.ensures.law v.shape v.trail m c.unwrap-gate.result c.self.invariant.heap.lawful gate).few; entry = entry }

pub returns-then-not-has_space-clause-lacks : goal.returns-then-not-has_space-clause-lacks
returns-then-not-has_space-clause-lacks g c = λ e.
    let v = c.self.inside.heap.view in
    let kept = c.self.inside.kept.items in
    let o = c.args.o in
    let i = c.args.i in
    let m = c.map_of-map.result in
    let there : o < length kept = within _ _ o c.self.view_is c.requires.object in
    let fast : kept_of kept o ≡ None = subst (λ (s : ObjectsState g.row.P.Denot). kept_of s.kept o ≡ None) (sym c.self.view_is) c.requires.fast in
    let kind : kind_at (props_at (world v.trail kept) o) i ≡ Some (kind_of c.args.held) = subst (λ (s : ObjectsState g.row.P.Denot). kind_at (props_at (world_of s) o) i ≡ Some (kind_of c.args.held)) (sym c.self.view_is) c.requires.kind in
    let first : c.map_of-map.new.h.view ≡ v = ap (λ (s : HeapState g.row.P.Denot). s.view) c.map_of-map.ensures.new in
    let gate : gate_in v.trail m ≡ Some c.unwrap-gate.result = ap (λ (w : View). gate_in w.trail m) (sym first) ∙ (sym c.gate.ensures.value ∙ c.unwrap-gate.ensures) in
    let entry : i < c.unwrap-gate.result.entries = subst (λ (x : Option GateWord). IsSomeAnd x (λ y. i < y.entries)) gate (entry-of v kept c.self.inside.of_null c.self.invariant o there fast i c.args.held kind m c.map_of-map.ensures.map) in
    let second : c.gate.new.self.view ≡ v = ap (λ (s : HeapState g.row.P.Denot). s.view) c.gate.ensures.new ∙ first in
    let none : HasSpace v (generalise_need c.unwrap-gate.result i) → ⊥ = λ space.
    let yes = c.has_space.ensures.1 (subst (λ (k : Need). HasSpace c.gate.new.self.view k) (sym c.need_to_generalise.ensures.need) (subst (λ (w : View). HasSpace w (generalise_need c.unwrap-gate.result i)) (sym second) space)) in
    let no = c.if-not-has_space.true in
    let f : ⊥ = cc in f in
    let a : ObjectsState g.row.P.Denot = record { heap = c.self.inside.heap; kept = kept; of_null = c.self.inside.of_null } in
    let it : LacksStore a o i c.args.held = record {
      map = m;
      gate = c.unwrap-gate.result;
      has = c.map_of-map.ensures.map;
      is_open = gate;
      entry = entry;
      outgrown = subst (λ (s : ObjectsState g.row.P.Denot). FitsField s.heap.view.trail o i c.args.held → ⊥) (sym c.self.view_is) c.requires.outgrown;
      full = none;
    } in
    subst (λ (s : ObjectsState g.row.P.Denot). LacksStore s o i c.args.held) c.self.view_is it

pub detail_at-was-requires : goal.detail_at-was-requires
detail_at-was-requires g c =
    let v = c.self.inside.heap.view in
    let kept = c.self.inside.kept.items in
    let o = c.args.o in
    let i = c.args.i in
    let m = c.map_of-map.result in
    let there : o < length kept = within _ _ o c.self.view_is c.requires.object in
    let fast : kept_of kept o ≡ None = subst (λ (s : ObjectsState g.row.P.Denot). kept_of s.kept o ≡ None) (sym c.self.view_is) c.requires.fast in
    let kind : kind_at (props_at (world v.trail kept) o) i ≡ Some (kind_of c.args.held) = subst (λ (s : ObjectsState g.row.P.Denot). kind_at (props_at (world_of s) o) i ≡ Some (kind_of c.args.held)) (sym c.self.view_is) c.requires.kind in
    let first : c.map_of-map.new.h.view ≡ v = ap (λ (s : HeapState g.row.P.Denot). s.view) c.map_of-map.ensures.new in
    let gate : gate_in v.trail m ≡ Some c.unwrap-gate.result = ap (λ (w : View). gate_in w.trail m) (sym first) ∙ (sym c.gate.ensures.value ∙ c.unwrap-gate.ensures) in
    let entry : i < c.unwrap-gate.result.entries = subst (λ (x : Option GateWord). IsSomeAnd x (λ y. i < y.entries)) gate (entry-of v kept c.self.inside.of_null c.self.invariant o there fast i c.args.held kind m c.map_of-map.ensures.map) in
    let second : c.gate.new.self.view ≡ v = ap (λ (s : HeapState g.row.P.Denot). s.view) c.gate.ensures.new ∙ first in
    record { entry = subst (λ (w : View). IsSomeAnd (gate_in w.trail m) (λ y. i < y.entries)) (sym second) (subst (λ (x : Option GateWord). IsSomeAnd x (λ y. i < y.entries)) (sym gate) entry) }

pub constness_for-constness-requires : goal.constness_for-constness-requires
constness_for-constness-requires g c =
    let v = c.self.inside.heap.view in
    let kept = c.self.inside.kept.items in
    let o = c.args.o in
    let i = c.args.i in
    let m = c.map_of-map.result in
    let there : o < length kept = within _ _ o c.self.view_is c.requires.object in
    let fast : kept_of kept o ≡ None = subst (λ (s : ObjectsState g.row.P.Denot). kept_of s.kept o ≡ None) (sym c.self.view_is) c.requires.fast in
    let kind : kind_at (props_at (world v.trail kept) o) i ≡ Some (kind_of c.args.held) = subst (λ (s : ObjectsState g.row.P.Denot). kind_at (props_at (world_of s) o) i ≡ Some (kind_of c.args.held)) (sym c.self.view_is) c.requires.kind in
    let first : c.map_of-map.new.h.view ≡ v = ap (λ (s : HeapState g.row.P.Denot). s.view) c.map_of-map.ensures.new in
    let gate : gate_in v.trail m ≡ Some c.unwrap-gate.result = ap (λ (w : View). gate_in w.trail m) (sym first) ∙ (sym c.gate.ensures.value ∙ c.unwrap-gate.ensures) in
    let entry : i < c.unwrap-gate.result.entries = subst (λ (x : Option GateWord). IsSomeAnd x (λ y. i < y.entries)) gate (entry-of v kept c.self.inside.of_null c.self.invariant o there fast i c.args.held kind m c.map_of-map.ensures.map) in
    let second : c.gate.new.self.view ≡ v = ap (λ (s : HeapState g.row.P.Denot). s.view) c.gate.ensures.new ∙ first in
    let third : c.detail_at-was.new.h.view ≡ v = ap (λ (s : HeapState g.row.P.Denot). s.view) c.detail_at-was.ensures.same ∙ second in
    let so : HasMap v.trail o = fast-has _ _ o c.self.view_is c.requires.object c.self.invariant c.requires.fast in
    let same : so.map ≡ m = some-is so.map m (sym so.is_map ∙ c.map_of-map.ensures.map) in
    let gates : so.gate ≡ c.unwrap-gate.result = some-is so.gate c.unwrap-gate.result (sym so.fast.is_open ∙ (ap (gate_in v.trail) same ∙ gate)) in
    let below : i < so.gate.entries = subst (λ (x : GateWord). i < x.entries) (sym gates) entry in
    let room : i < (store_in v.trail o).capacity = omega (arith, below, so.fast.holds.capacity) in
    record { within = subst (λ (w : View). i < (store_in w.trail o).capacity) (sym third) room }

pub generalise_object-requires : goal.generalise_object-requires
generalise_object-requires g c =
    let v = c.self.inside.heap.view in
    let kept = c.self.inside.kept.items in
    let o = c.args.o in
    let i = c.args.i in
    let m = c.map_of-map.result in
    let there : o < length kept = within _ _ o c.self.view_is c.requires.object in
    let fast : kept_of kept o ≡ None = subst (λ (s : ObjectsState g.row.P.Denot). kept_of s.kept o ≡ None) (sym c.self.view_is) c.requires.fast in
    let kind : kind_at (props_at (world v.trail kept) o) i ≡ Some (kind_of c.args.held) = subst (λ (s : ObjectsState g.row.P.Denot). kind_at (props_at (world_of s) o) i ≡ Some (kind_of c.args.held)) (sym c.self.view_is) c.requires.kind in
    let first : c.map_of-map.new.h.view ≡ v = ap (λ (s : HeapState g.row.P.Denot). s.view) c.map_of-map.ensures.new in
    let gate : gate_in v.trail m ≡ Some c.unwrap-gate.result = ap (λ (w : View). gate_in w.trail m) (sym first) ∙ (sym c.gate.ensures.value ∙ c.unwrap-gate.ensures) in
    let entry : i < c.unwrap-gate.result.entries = subst (λ (x : Option GateWord). IsSomeAnd x (λ y. i < y.entries)) gate (entry-of v kept c.self.inside.of_null c.self.invariant o there fast i c.args.held kind m c.map_of-map.ensures.map) in
    let second : c.gate.new.self.view ≡ v = ap (λ (s : HeapState g.row.P.Denot). s.view) c.gate.ensures.new ∙ first in
    let third : c.detail_at-was.new.h.view ≡ v = ap (λ (s : HeapState g.row.P.Denot). s.view) c.detail_at-was.ensures.same ∙ second in
    let fourth : c.constness_for-constness.new.h.view ≡ v = ap (λ (s : HeapState g.row.P.Denot). s.view) c.constness_for-constness.ensures.new ∙ third in
    let fifth : c.detail_for_held-detail.new.h.view ≡ v = ap (λ (s : HeapState g.row.P.Denot). s.view) c.detail_for_held-detail.ensures.same ∙ fourth in
    let room : HasSpace v (generalise_need c.unwrap-gate.result i) = subst (λ (w : View). HasSpace w (generalise_need c.unwrap-gate.result i)) second (subst (λ (k : Need). HasSpace c.gate.new.self.view k) c.need_to_generalise.ensures.need (c.has_space.ensures.0 c.if-not-has_space.false)) in
    let back : (Q : View → Type 0) → Q v → Q c.detail_for_held-detail.new.h.view = λ Q q. subst Q (sym fifth) q in
    record {
      tree = back (λ w. IsTree w.trail) c.self.invariant.tree;
      honest = back (λ w. IsHonest w.trail) (subst (λ (s : ObjectsState g.row.P.Denot). IsHonest s.heap.view.trail) (sym c.self.view_is) c.requires.honest);
      live = back (λ w. (bits_in w.trail m).deprecated ≡ false) (subst (λ (s : ObjectsState g.row.P.Denot). IsLive s.heap.view.trail o) (sym c.self.view_is) c.requires.live m c.map_of-map.ensures.map);
      fast = back (λ w. HasMap w.trail o) (fast-has _ _ o c.self.view_is c.requires.object c.self.invariant c.requires.fast);
      has = back (λ w. map_in w.trail o ≡ Some m) c.map_of-map.ensures.map;
      «open» = back (λ w. IsSomeAnd (gate_in w.trail m) (λ y. y.entries ≡ c.unwrap-gate.result.entries)) (opened (gate_in v.trail m) c.unwrap-gate.result gate);
      entry = entry;
      detail = back (λ w. IsDetail w.shape w.trail c.detail_for_held-detail.result) (record { form = c.detail_for_held-detail.ensures.form; there = subst (λ (w : View). IsClassThere w.shape w.trail c.detail_for_held-detail.result.class) fourth c.detail_for_held-detail.ensures.there });
      out = back (λ w. AreHandedOut w.used.slots (store_in w.trail o)) (c.self.invariant.stores o);
      handed = back (λ w. o < w.used.objects) (subst (λ (k : ℕ). o < k) c.self.invariant.items there);
      space = back (λ w. (x : GateWord) → gate_in w.trail m ≡ Some x → HasSpace w (generalise_need x i)) (λ x is. subst (λ (y : GateWord). HasSpace v (generalise_need y i)) (some-is c.unwrap-gate.result x (sym gate ∙ is)) room);
    }

pub invariant_of-self-2 : goal.invariant_of-self-2
invariant_of-self-2 g c =
    let v = c.self.inside.heap.view in
    let kept = c.self.inside.kept.items in
    let o = c.args.o in
    let i = c.args.i in
    let m = c.map_of-map.result in
    let there : o < length kept = within _ _ o c.self.view_is c.requires.object in
    let fast : kept_of kept o ≡ None = subst (λ (s : ObjectsState g.row.P.Denot). kept_of s.kept o ≡ None) (sym c.self.view_is) c.requires.fast in
    let kind : kind_at (props_at (world v.trail kept) o) i ≡ Some (kind_of c.args.held) = subst (λ (s : ObjectsState g.row.P.Denot). kind_at (props_at (world_of s) o) i ≡ Some (kind_of c.args.held)) (sym c.self.view_is) c.requires.kind in
    let first : c.map_of-map.new.h.view ≡ v = ap (λ (s : HeapState g.row.P.Denot). s.view) c.map_of-map.ensures.new in
    let gate : gate_in v.trail m ≡ Some c.unwrap-gate.result = ap (λ (w : View). gate_in w.trail m) (sym first) ∙ (sym c.gate.ensures.value ∙ c.unwrap-gate.ensures) in
    let entry : i < c.unwrap-gate.result.entries = subst (λ (x : Option GateWord). IsSomeAnd x (λ y. i < y.entries)) gate (entry-of v kept c.self.inside.of_null c.self.invariant o there fast i c.args.held kind m c.map_of-map.ensures.map) in
    let second : c.gate.new.self.view ≡ v = ap (λ (s : HeapState g.row.P.Denot). s.view) c.gate.ensures.new ∙ first in
    let third : c.detail_at-was.new.h.view ≡ v = ap (λ (s : HeapState g.row.P.Denot). s.view) c.detail_at-was.ensures.same ∙ second in
    let fourth : c.constness_for-constness.new.h.view ≡ v = ap (λ (s : HeapState g.row.P.Denot). s.view) c.constness_for-constness.ensures.new ∙ third in
    let fifth : c.detail_for_held-detail.new.h.view ≡ v = ap (λ (s : HeapState g.row.P.Denot). s.view) c.detail_for_held-detail.ensures.same ∙ fourth in
    let room : HasSpace v (generalise_need c.unwrap-gate.result i) = subst (λ (w : View). HasSpace w (generalise_need c.unwrap-gate.result i)) second (subst (λ (k : Need). HasSpace c.gate.new.self.view k) c.need_to_generalise.ensures.need (c.has_space.ensures.0 c.if-not-has_space.false)) in
    let a : ObjectsState g.row.P.Denot = record { heap = c.self.inside.heap; kept = kept; of_null = c.self.inside.of_null } in
    let it : IsGeneralisedFor v c.generalise_object.new.h.view o m c.unwrap-gate.result.entries i c.detail_for_held-detail.result = subst (λ (w : View). IsGeneralisedFor w c.generalise_object.new.h.view o m c.unwrap-gate.result.entries i c.detail_for_held-detail.result) fifth c.generalise_object.ensures.generalised in
    let was : detail_at v.trail m i ≡ Some c.detail_at-was.result = subst (λ (w : View). detail_at w.trail m i ≡ Some c.detail_at-was.result) second c.detail_at-was.ensures.value in
    let asks : c.detail_for_held-detail.result ≡ held_detail v.trail c.args.held c.constness_for-constness.result = c.detail_for_held-detail.ensures.detail ∙ ap (λ (w : View). held_detail w.trail c.args.held c.constness_for-constness.result) fourth in
    generalised-sound c.maps_are_kept.ensures.law c.details_rise.ensures.law c.set_is_kept.ensures.law c.unused_says_nothing.ensures.law c.forms_are_kept.ensures.law c.stable_is_kept.ensures.law c.honest_after.ensures.law c.kept_is_carried.ensures.law c.moved_is_carried.ensures.law
    g.P.Pace.went a c.generalise_object.new.h c.self.invariant o there fast m i c.unwrap-gate.result c.detail_for_held-detail.result c.map_of-map.ensures.map gate it

pub returns-clause-generalised : goal.returns-clause-generalised
returns-clause-generalised g c = λ yes.
    let v = c.self.inside.heap.view in
    let kept = c.self.inside.kept.items in
    let o = c.args.o in
    let i = c.args.i in
    let m = c.map_of-map.result in
    let there : o < length kept = within _ _ o c.self.view_is c.requires.object in
    let fast : kept_of kept o ≡ None = subst (λ (s : ObjectsState g.row.P.Denot). kept_of s.kept o ≡ None) (sym c.self.view_is) c.requires.fast in
    let kind : kind_at (props_at (world v.trail kept) o) i ≡ Some (kind_of c.args.held) = subst (λ (s : ObjectsState g.row.P.Denot). kind_at (props_at (world_of s) o) i ≡ Some (kind_of c.args.held)) (sym c.self.view_is) c.requires.kind in
    let first : c.map_of-map.new.h.view ≡ v = ap (λ (s : HeapState g.row.P.Denot). s.view) c.map_of-map.ensures.new in
    let gate : gate_in v.trail m ≡ Some c.unwrap-gate.result = ap (λ (w : View). gate_in w.trail m) (sym first) ∙ (sym c.gate.ensures.value ∙ c.unwrap-gate.ensures) in
    let entry : i < c.unwrap-gate.result.entries = subst (λ (x : Option GateWord). IsSomeAnd x (λ y. i < y.entries)) gate (entry-of v kept c.self.inside.of_null c.self.invariant o there fast i c.args.held kind m c.map_of-map.ensures.map) in
    let second : c.gate.new.self.view ≡ v = ap (λ (s : HeapState g.row.P.Denot). s.view) c.gate.ensures.new ∙ first in
    let third : c.detail_at-was.new.h.view ≡ v = ap (λ (s : HeapState g.row.P.Denot). s.view) c.detail_at-was.ensures.same ∙ second in
    let fourth : c.constness_for-constness.new.h.view ≡ v = ap (λ (s : HeapState g.row.P.Denot). s.view) c.constness_for-constness.ensures.new ∙ third in
    let fifth : c.detail_for_held-detail.new.h.view ≡ v = ap (λ (s : HeapState g.row.P.Denot). s.view) c.detail_for_held-detail.ensures.same ∙ fourth in
    let room : HasSpace v (generalise_need c.unwrap-gate.result i) = subst (λ (w : View). HasSpace w (generalise_need c.unwrap-gate.result i)) second (subst (λ (k : Need). HasSpace c.gate.new.self.view k) c.need_to_generalise.ensures.need (c.has_space.ensures.0 c.if-not-has_space.false)) in
    let a : ObjectsState g.row.P.Denot = record { heap = c.self.inside.heap; kept = kept; of_null = c.self.inside.of_null } in
    let it : IsGeneralisedFor v c.generalise_object.new.h.view o m c.unwrap-gate.result.entries i c.detail_for_held-detail.result = subst (λ (w : View). IsGeneralisedFor w c.generalise_object.new.h.view o m c.unwrap-gate.result.entries i c.detail_for_held-detail.result) fifth c.generalise_object.ensures.generalised in
    let was : detail_at v.trail m i ≡ Some c.detail_at-was.result = subst (λ (w : View). detail_at w.trail m i ≡ Some c.detail_at-was.result) second c.detail_at-was.ensures.value in
    let asks : c.detail_for_held-detail.result ≡ held_detail v.trail c.args.held c.constness_for-constness.result = c.detail_for_held-detail.ensures.detail ∙ ap (λ (w : View). held_detail w.trail c.args.held c.constness_for-constness.result) fourth in
    let after : ObjectsState g.row.P.Denot = record { heap = c.generalise_object.new.h; kept = kept; of_null = c.self.inside.of_null } in
    let right : IsConstnessFor c.detail_at-was.result.constness (held_in (kind_of c.args.held) c.detail_at-was.result.rep (slot_word v.trail o i)) c.args.held c.constness_for-constness.result =
    subst (λ (w : View). IsConstnessFor c.detail_at-was.result.constness (held_in (kind_of c.args.held) c.detail_at-was.result.rep (slot_word w.trail o i)) c.args.held c.constness_for-constness.result) third c.constness_for-constness.ensures.constness in
    let asked : IsAskedFor a o m i c.args.held c.detail_for_held-detail.result = subst (λ (d : Detail). IsAskedFor a o m i c.args.held d) (sym asks)
    (asked-for c.gates_are_open.ensures.law a c.self.invariant o m i there fast c.args.held kind c.detail_at-was.result c.constness_for-constness.result c.map_of-map.ensures.map was right) in
    let on = g.met.P.Pace.goes_on in
    subst (λ (s : ObjectsState g.row.P.Denot). HasGeneralised g.P.Pace.went s o i c.args.held after) c.self.view_is
    (generalised c.maps_are_kept.ensures.law c.details_rise.ensures.law c.set_is_kept.ensures.law c.unused_says_nothing.ensures.law c.forms_are_kept.ensures.law c.stable_is_kept.ensures.law c.honest_after.ensures.law c.kept_is_carried.ensures.law c.moved_is_carried.ensures.law
    g.P.Pace.went a c.generalise_object.new.h c.self.invariant o there fast m i c.unwrap-gate.result c.detail_for_held-detail.result c.map_of-map.ensures.map gate it c.args.held
    (subst (λ (s : ObjectsState g.row.P.Denot). IsLive s.heap.view.trail o) (sym c.self.view_is) c.requires.live m c.map_of-map.ensures.map) entry
    (subst (λ (s : ObjectsState g.row.P.Denot). FitsField s.heap.view.trail o i c.args.held → ⊥) (sym c.self.view_is) c.requires.outgrown) room asked
    (goes-on c.self.inside.heap.desk c.map_of-map.new.h.desk c.generalise_object.new.h.desk c.map_of-map.ensures.goes
    (goes-on c.map_of-map.new.h.desk c.gate.new.self.desk c.generalise_object.new.h.desk c.gate.ensures.goes
    (goes-on c.gate.new.self.desk c.detail_at-was.new.h.desk c.generalise_object.new.h.desk c.detail_at-was.ensures.goes
    (goes-on c.detail_at-was.new.h.desk c.constness_for-constness.new.h.desk c.generalise_object.new.h.desk c.constness_for-constness.ensures.goes
    (goes-on c.constness_for-constness.new.h.desk c.detail_for_held-detail.new.h.desk c.generalise_object.new.h.desk c.detail_for_held-detail.ensures.goes c.generalise_object.ensures.goes)))))
    (on _ _ _ _ _ _ c.map_of-map.ensures.went (on _ _ _ _ _ _ c.gate.ensures.went (on _ _ _ _ _ _ c.detail_at-was.ensures.went (on _ _ _ _ _ _ c.constness_for-constness.ensures.went (on _ _ _ _ _ _ c.detail_for_held-detail.ensures.went c.generalise_object.ensures.went))))))

pub returns-clause-fits : goal.returns-clause-fits
returns-clause-fits g c = λ yes.
    let v = c.self.inside.heap.view in
    let kept = c.self.inside.kept.items in
    let o = c.args.o in
    let i = c.args.i in
    let m = c.map_of-map.result in
    let there : o < length kept = within _ _ o c.self.view_is c.requires.object in
    let fast : kept_of kept o ≡ None = subst (λ (s : ObjectsState g.row.P.Denot). kept_of s.kept o ≡ None) (sym c.self.view_is) c.requires.fast in
    let kind : kind_at (props_at (world v.trail kept) o) i ≡ Some (kind_of c.args.held) = subst (λ (s : ObjectsState g.row.P.Denot). kind_at (props_at (world_of s) o) i ≡ Some (kind_of c.args.held)) (sym c.self.view_is) c.requires.kind in
    let first : c.map_of-map.new.h.view ≡ v = ap (λ (s : HeapState g.row.P.Denot). s.view) c.map_of-map.ensures.new in
    let gate : gate_in v.trail m ≡ Some c.unwrap-gate.result = ap (λ (w : View). gate_in w.trail m) (sym first) ∙ (sym c.gate.ensures.value ∙ c.unwrap-gate.ensures) in
    let entry : i < c.unwrap-gate.result.entries = subst (λ (x : Option GateWord). IsSomeAnd x (λ y. i < y.entries)) gate (entry-of v kept c.self.inside.of_null c.self.invariant o there fast i c.args.held kind m c.map_of-map.ensures.map) in
    let second : c.gate.new.self.view ≡ v = ap (λ (s : HeapState g.row.P.Denot). s.view) c.gate.ensures.new ∙ first in
    let third : c.detail_at-was.new.h.view ≡ v = ap (λ (s : HeapState g.row.P.Denot). s.view) c.detail_at-was.ensures.same ∙ second in
    let fourth : c.constness_for-constness.new.h.view ≡ v = ap (λ (s : HeapState g.row.P.Denot). s.view) c.constness_for-constness.ensures.new ∙ third in
    let fifth : c.detail_for_held-detail.new.h.view ≡ v = ap (λ (s : HeapState g.row.P.Denot). s.view) c.detail_for_held-detail.ensures.same ∙ fourth in
    let room : HasSpace v (generalise_need c.unwrap-gate.result i) = subst (λ (w : View). HasSpace w (generalise_need c.unwrap-gate.result i)) second (subst (λ (k : Need). HasSpace c.gate.new.self.view k) c.need_to_generalise.ensures.need (c.has_space.ensures.0 c.if-not-has_space.false)) in
    let a : ObjectsState g.row.P.Denot = record { heap = c.self.inside.heap; kept = kept; of_null = c.self.inside.of_null } in
    let it : IsGeneralisedFor v c.generalise_object.new.h.view o m c.unwrap-gate.result.entries i c.detail_for_held-detail.result = subst (λ (w : View). IsGeneralisedFor w c.generalise_object.new.h.view o m c.unwrap-gate.result.entries i c.detail_for_held-detail.result) fifth c.generalise_object.ensures.generalised in
    let was : detail_at v.trail m i ≡ Some c.detail_at-was.result = subst (λ (w : View). detail_at w.trail m i ≡ Some c.detail_at-was.result) second c.detail_at-was.ensures.value in
    let asks : c.detail_for_held-detail.result ≡ held_detail v.trail c.args.held c.constness_for-constness.result = c.detail_for_held-detail.ensures.detail ∙ ap (λ (w : View). held_detail w.trail c.args.held c.constness_for-constness.result) fourth in
    let before : detail_at (marked v.trail m) m i ≡ Some c.detail_at-was.result = marked-same v.trail m (λ t. detail_at t m i) (λ b. refl) ∙ was in
    let admits : detail_at c.generalise_object.new.h.view.trail it.on.map i ≡ Some (joined_detail c.detail_at-was.result c.detail_for_held-detail.result) = it.wanted ∙ wanted-here (marked v.trail m) m i c.detail_for_held-detail.result c.detail_at-was.result before in
    fits-joined v.trail c.generalise_object.new.h.view.trail o it.on.map i c.args.held c.detail_at-was.result c.constness_for-constness.result it.on.come.moved (admits ∙ ap (λ (d : Detail). Some (joined_detail c.detail_at-was.result d)) asks)
