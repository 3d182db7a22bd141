use Rattle.std.proofs.Common.{◌≡◌, ◌<◌, None, length, refl, sym, subst}
use Rattle.std.specs.Prelude.{IfOk}
use Rattle.std.specs.List.{AllByRecursion}
use Rattle.hc_heap.specs.Readings.{map_in}
use Rattle.hc_table.specs.Attributes.{IsProper}
use Rattle.hc_table.specs.World.{Object, object, HaveDistinctNames}
use Rattle.hc_modes.specs.Came.{IsStill, world_of}
use Rattle.hc_slots.specs.Meaning.{dictionary_object, object_shown}
use Rattle.hc_modes.specs.Meaning.{kept_of, world}
use Rattle.hc_modes.specs.State.{ObjectsState}
use Rattle.hc_modes.proofs.Become.{still-heap}
use Rattle.hc_modes.proofs.Left.{fast-is}
use Rattle.hc_modes.proofs.Shown.{within}
use Rattle.hc_modes.proofs.Writing.{has-map}
use Rattle.hc_modes.proofs.objects.Objects.dictionary.Goals as goal

pub dictionary_of-requires-clause-fast : goal.dictionary_of-requires-clause-fast
dictionary_of-requires-clause-fast g c =
    let v = c.self.inside.heap.view in
    let kept = c.self.inside.kept.items in
    let null = c.self.inside.of_null in
    let o = c.args.o in
    let there : o < length kept = within _ _ o c.self.view_is c.requires.object in
    let fast : kept_of kept o ≡ None = subst (λ (s : ObjectsState g.row.P.Denot). kept_of s.kept c.args.o ≡ None) (sym c.self.view_is) c.requires.fast in
    has-map v kept null c.self.invariant o there fast

pub dictionary_of-requires-clause-distinct : goal.dictionary_of-requires-clause-distinct
dictionary_of-requires-clause-distinct g c =
    let v = c.self.inside.heap.view in
    let kept = c.self.inside.kept.items in
    let null = c.self.inside.of_null in
    let o = c.args.o in
    let there : o < length kept = within _ _ o c.self.view_is c.requires.object in
    let fast : kept_of kept o ≡ None = subst (λ (s : ObjectsState g.row.P.Denot). kept_of s.kept c.args.o ≡ None) (sym c.self.view_is) c.requires.fast in
    let is : object (world v.trail kept) o ≡ object_shown v.trail o None (map_in v.trail o) = fast-is v kept null c.self.invariant o there fast in
    subst (λ (x : Object). HaveDistinctNames x.props) is (c.self.invariant.sound.sound.names o)

pub dictionary_of-requires-clause-proper : goal.dictionary_of-requires-clause-proper
dictionary_of-requires-clause-proper g c =
    let v = c.self.inside.heap.view in
    let kept = c.self.inside.kept.items in
    let null = c.self.inside.of_null in
    let o = c.args.o in
    let there : o < length kept = within _ _ o c.self.view_is c.requires.object in
    let fast : kept_of kept o ≡ None = subst (λ (s : ObjectsState g.row.P.Denot). kept_of s.kept c.args.o ≡ None) (sym c.self.view_is) c.requires.fast in
    let is : object (world v.trail kept) o ≡ object_shown v.trail o None (map_in v.trail o) = fast-is v kept null c.self.invariant o there fast in
    subst (λ (x : Object). AllByRecursion IsProper x.props) is (c.self.invariant.sound.proper o)

pub returns-clause-value : goal.returns-clause-value
returns-clause-value g c =
    let v = c.self.inside.heap.view in
    let kept = c.self.inside.kept.items in
    let null = c.self.inside.of_null in
    let o = c.args.o in
    let there : o < length kept = within _ _ o c.self.view_is c.requires.object in
    let fast : kept_of kept o ≡ None = subst (λ (s : ObjectsState g.row.P.Denot). kept_of s.kept c.args.o ≡ None) (sym c.self.view_is) c.requires.fast in
    subst (λ (s : ObjectsState g.row.P.Denot). IfOk c.dictionary_of.result (λ d. dictionary_object d ≡ object (world_of s) o)) c.self.view_is
    (subst (λ (x : Object). IfOk c.dictionary_of.result (λ d. dictionary_object d ≡ x)) (sym (fast-is v kept null c.self.invariant o there fast)) c.dictionary_of.ensures.value)

pub returns-clause-still : goal.returns-clause-still
returns-clause-still g c =
    let start : ObjectsState g.row.P.Denot = record { heap = c.self.inside.heap; kept = c.self.inside.kept.items; of_null = c.self.inside.of_null } in
    let now : ObjectsState g.row.P.Denot = record { heap = c.dictionary_of.new.h; kept = c.self.inside.kept.items; of_null = c.self.inside.of_null } in
    subst (λ (s : ObjectsState g.row.P.Denot). IsStill s now) c.self.view_is
    (still-heap start now c.dictionary_of.ensures.still refl refl c.dictionary_of.ensures.loads)
