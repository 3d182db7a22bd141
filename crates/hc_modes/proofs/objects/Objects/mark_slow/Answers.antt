use Rattle.std.proofs.Common.{◌≡◌, ◌<◌, length, ap, sym, subst, Option, None, Some, refl}
use Rattle.hc_heap.specs.Readings.{map_in}
use Rattle.hc_modes.proofs.Gets.{details-none}
use Rattle.hc_modes.proofs.Marking.{how-left, words-same}
use Rattle.std.specs.Prelude.{IsSome, option_map}
use Rattle.hc_heap.specs.States.{View, IsHeap}
use Rattle.hc_tree.specs.Tree.{IsTree}
use Rattle.hc_table.specs.Changes.{Moved}
use Rattle.hc_modes.specs.Becoming.{HasBecome, with_proto}
use Rattle.hc_modes.specs.Admitting.{FactsStay}
use Rattle.hc_modes.specs.Came.{Steps, HowBecame}
use Rattle.hc_modes.specs.Meaning.{kept_of, world, cause_in}
use Rattle.hc_slots.specs.Meaning.{Dictionary}
use Rattle.hc_modes.specs.State.{ObjectsState, IsObjects}
use Rattle.hc_modes.proofs.Prototypes.{became-proto, slow-proto-facts, slow-proto-sound, slow-proto-world, slow-none}
use Rattle.hc_slots.specs.Cases.{some-of}
use Rattle.hc_modes.proofs.Shown.{within}
use Rattle.hc_modes.proofs.objects.Objects.mark_slow.Goals as goal

pub invariant_of-self : goal.invariant_of-self
invariant_of-self g c =
    let v = c.self.inside.heap.view in
    let kept = c.self.inside.kept.items in
    let null = c.self.inside.of_null in
    let p = c.args.p in
    let there : p < length kept = within _ _ p c.self.view_is c.requires.object in
    let slow = some-of (kept_of kept p) (subst (λ (s : ObjectsState g.row.P.Denot). IsSome (kept_of s.kept p)) (sym c.self.view_is) c.requires.slow) in
    let is = c.set_is_proto.ensures.view in
    let tree : IsTree (with_proto v.trail p) = subst (λ (w : View). IsTree w.trail) is c.set_is_proto.ensures.tree in
    let heap : IsHeap (record v { trail = with_proto v.trail p }) = subst IsHeap is c.set_is_proto.ensures.heap in
    subst (λ (w : View). IsObjects w kept null) (sym is)
    (slow-proto-sound c.maps_are_kept.ensures.law c.details_rise.ensures.law v kept null c.self.invariant p there slow.0 slow.1 tree heap)

pub returns-clause-moved : goal.returns-clause-moved
returns-clause-moved g c =
    let v = c.self.inside.heap.view in
    let kept = c.self.inside.kept.items in
    let null = c.self.inside.of_null in
    let p = c.args.p in
    let there : p < length kept = within _ _ p c.self.view_is c.requires.object in
    let slow = some-of (kept_of kept p) (subst (λ (s : ObjectsState g.row.P.Denot). IsSome (kept_of s.kept p)) (sym c.self.view_is) c.requires.slow) in
    let is = c.set_is_proto.ensures.view in
    let tree : IsTree (with_proto v.trail p) = subst (λ (w : View). IsTree w.trail) is c.set_is_proto.ensures.tree in
    let heap : IsHeap (record v { trail = with_proto v.trail p }) = subst IsHeap is c.set_is_proto.ensures.heap in
    let after : ObjectsState g.row.P.Denot = record { heap = c.set_is_proto.new.h; kept = kept; of_null = null } in
    subst (λ (s : ObjectsState g.row.P.Denot). Steps g.P.Pace.went s Moved after) c.self.view_is (record {
      world = subst (λ (w : View). world w.trail kept ≡ world v.trail kept) (sym is)
          (slow-proto-world c.maps_are_kept.ensures.law c.details_rise.ensures.law v kept null c.self.invariant p there slow.0 slow.1 tree heap);
      shape = ap (λ (w : View). w.shape) is;
      goes = c.set_is_proto.ensures.goes;
      went = c.set_is_proto.ensures.went;
      keeps = subst (λ (w : View). FactsStay v.shape v.trail w.trail) (sym is)
          (slow-proto-facts c.maps_are_kept.ensures.law c.details_rise.ensures.law v kept null c.self.invariant p there slow.0 slow.1 tree heap
          c.forms_are_kept.ensures.law c.stable_is_kept.ensures.law c.honest_after.ensures.law c.kept_is_carried.ensures.law);
    })

pub returns-clause-became : goal.returns-clause-became
returns-clause-became g c =
    let v = c.self.inside.heap.view in
    let p = c.args.p in
    subst (λ (s : ObjectsState g.row.P.Denot). HasBecome p s.heap.view.trail c.set_is_proto.new.h.view.trail) c.self.view_is
    (subst (λ (w : View). HasBecome p v.trail w.trail) (sym c.set_is_proto.ensures.view) (became-proto v.trail p))

pub returns-clause-trail : goal.returns-clause-trail
returns-clause-trail g c = subst (λ (s : ObjectsState g.row.P.Denot). c.set_is_proto.new.h.view.trail ≡ with_proto s.heap.view.trail c.args.p) c.self.view_is (ap (λ (w : View). w.trail) c.set_is_proto.ensures.view)

pub returns-clause-how : goal.returns-clause-how
returns-clause-how g c =
    let v = c.self.inside.heap.view in
    let kept = c.self.inside.kept.items in
    let null = c.self.inside.of_null in
    let p = c.args.p in
    let there : p < length kept = within _ _ p c.self.view_is c.requires.object in
    let slow = some-of (kept_of kept p) (subst (λ (s : ObjectsState g.row.P.Denot). IsSome (kept_of s.kept p)) (sym c.self.view_is) c.requires.slow) in
    let none : map_in v.trail p ≡ None = slow-none v kept null c.self.invariant p there slow.0 slow.1 in
    let is = ap (λ (w : View). w.trail) c.set_is_proto.ensures.view in
    let cause : cause_in kept p ≡ Some slow.0.cause = ap (λ (d : Option Dictionary). option_map (λ x. x.cause) d) slow.1 in
    let before : ObjectsState g.row.P.Denot = record { heap = c.self.inside.heap; kept = kept; of_null = null } in
    let after : ObjectsState g.row.P.Denot = record { heap = c.set_is_proto.new.h; kept = kept; of_null = null } in
    subst (λ (s : ObjectsState g.row.P.Denot). HowBecame s p after) c.self.view_is
    (how-left before before after p slow.0.cause none (words-same v.trail v.trail p refl) (details-none (λ f. refl)) is cause)
