use Rattle.std.proofs.Common.{◌≡◌, ◌∙◌, ◌<◌, List, [], ◌∷◌, ◌++◌, Option, Some, None, length, set, ap, sym, subst}
use Rattle.hc_table.specs.Changes.{Added}
use Rattle.hc_table.specs.World.{Object, object, props_at, place_of, with_list}
use Rattle.hc_modes.specs.Came.{Steps, world_of}
use Rattle.hc_slots.specs.Meaning.{Dictionary, dictionary_object}
use Rattle.hc_modes.specs.Meaning.{kept_of, world}
use Rattle.hc_modes.specs.State.{ObjectsState, IsObjects}
use Rattle.hc_modes.proofs.Shown.{within}
use Rattle.hc_modes.proofs.Slowed.{is-slow, item-is, slow-change, slow-world, slow-sound, slow-steps, on-ok, either}
use Rattle.hc_modes.proofs.Stepping.{set-same}
use Rattle.hc_modes.proofs.objects.Objects.add_slow.Goals as goal

pub add-requires-clause-absent : goal.add-requires-clause-absent
add-requires-clause-absent g c =
    let v = c.self.inside.heap.view in
    let kept = c.self.inside.kept.items in
    let null = c.self.inside.of_null in
    let o = c.args.o in
    let there : o < length kept = within _ _ o c.self.view_is c.requires.object in
    let d = c.unwrap-slow.result.now in
    let is : kept_of kept o ≡ Some d = item-is kept o c.index_mut.result.now c.as_mut.result c.unwrap-slow.result there c.index_mut.ensures.value c.as_mut.ensures.value c.unwrap-slow.ensures in
    let shown : object (world v.trail kept) o ≡ dictionary_object d = is-slow v kept null c.self.invariant o there d is in
    let absent : place_of (props_at (world v.trail kept) o) c.args.p.name ≡ None = subst (λ (s : ObjectsState g.row.P.Denot). place_of (props_at (world_of s) c.args.o) c.args.p.name ≡ None) (sym c.self.view_is) c.requires.absent in
    ap (λ (x : Object). place_of x.props c.args.p.name) (sym shown) ∙ absent

pub invariant_of-self : goal.invariant_of-self
invariant_of-self g c =
    let v = c.self.inside.heap.view in
    let kept = c.self.inside.kept.items in
    let null = c.self.inside.of_null in
    let o = c.args.o in
    let there : o < length kept = within _ _ o c.self.view_is c.requires.object in
    let d = c.unwrap-slow.result.now in
    let is : kept_of kept o ≡ Some d = item-is kept o c.index_mut.result.now c.as_mut.result c.unwrap-slow.result there c.index_mut.ensures.value c.as_mut.ensures.value c.unwrap-slow.ensures in
    let absent : place_of (props_at (world v.trail kept) o) c.args.p.name ≡ None = subst (λ (s : ObjectsState g.row.P.Denot). place_of (props_at (world_of s) c.args.o) c.args.p.name ≡ None) (sym c.self.view_is) c.requires.absent in
    let full : Dictionary = record d { props = d.props ++ c.args.p ∷ [] } in
    either c.add.result (c.add.new.self ≡ full) (c.add.new.self ≡ d) (IsObjects v (set kept o (Some c.add.new.self)) null)
    (λ added. slow-sound v kept null c.self.invariant o there d is c.maps_are_kept.ensures.law c.details_rise.ensures.law c.changes_keep.ensures.law c.add.new.self (Added o c.args.p)
    (slow-change v kept null c.self.invariant o there d is c.add.new.self (λ (x : Object). with_list x (x.props ++ c.args.p ∷ [])) (ap (λ (y : Dictionary). dictionary_object y) (sym added))) (absent, c.requires.proper))
    (λ same. subst (λ (k : List (Option Dictionary)). IsObjects v k null) (sym (ap (λ (y : Dictionary). set kept o (Some y)) same ∙ set-same kept o (Some d) there is)) c.self.invariant)
    c.add.ensures.added c.add.ensures.err

pub returns-clause-steps : goal.returns-clause-steps
returns-clause-steps g c =
    let v = c.self.inside.heap.view in
    let kept = c.self.inside.kept.items in
    let null = c.self.inside.of_null in
    let o = c.args.o in
    let there : o < length kept = within _ _ o c.self.view_is c.requires.object in
    let d = c.unwrap-slow.result.now in
    let is : kept_of kept o ≡ Some d = item-is kept o c.index_mut.result.now c.as_mut.result c.unwrap-slow.result there c.index_mut.ensures.value c.as_mut.ensures.value c.unwrap-slow.ensures in
    let full : Dictionary = record d { props = d.props ++ c.args.p ∷ [] } in
    let then : ObjectsState g.row.P.Denot = record { heap = c.self.inside.heap; kept = set kept o (Some c.add.new.self); of_null = null } in
    on-ok c.add.result (c.add.new.self ≡ full) (Steps g.P.Pace.went c.args.self.now (Added o c.args.p) then)
    (λ added. slow-steps g.P.Pace.went g.met.P.Pace.stays _ _ c.self.view_is c.self.invariant.heap.lawful (Added o c.args.p) (set kept o (Some c.add.new.self))
    (slow-world v kept null c.self.invariant o there d is c.maps_are_kept.ensures.law c.details_rise.ensures.law c.changes_keep.ensures.law c.add.new.self (Added o c.args.p)
    (slow-change v kept null c.self.invariant o there d is c.add.new.self (λ (x : Object). with_list x (x.props ++ c.args.p ∷ [])) (ap (λ (y : Dictionary). dictionary_object y) (sym added)))))
    c.add.ensures.added
