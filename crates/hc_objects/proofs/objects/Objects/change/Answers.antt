use Rattle.std.proofs.Common.{inr, ◌≡◌, ◌<◌, ℕ, Option, length, sym, ap, subst, arith}
use Rattle.std.specs.Prelude.{IfSome}
use Rattle.std.proofs.lemmas.Result.{on_err_weaker, on_ok_weaker}
use Rattle.hc_heap.specs.Readings.{map_in}
use Rattle.hc_heap.specs.Writes.{Trail}
use Rattle.hc_table.specs.Changes.{IsThere, Moved}
use Rattle.hc_table.specs.World.{World}
use Rattle.hc_modes.specs.Admitting.{IsHonest}
use Rattle.hc_modes.specs.Came.{Came, IsStill, world_of}
use Rattle.hc_modes.specs.State.{IsObjects, ObjectsState}
use Rattle.hc_objects.specs.Changes.{did_of}
use Rattle.hc_objects.specs.State.{IsWatching}
use Rattle.hc_objects.proofs.Applied.{AreKnown, applied-cells, applied-done, applied-here, applied-longer, applied-room, applied-size, applied-there, applied-told, applied-watched, is-applied, still-came, there-longer, there-may, there-then}
use Rattle.hc_objects.proofs.Restricting.{world-still}
use Rattle.hc_objects.proofs.Told.{Told}
use Rattle.hc_objects.proofs.objects.Objects.change.Goals as goal

pub named_moved-there-requires : goal.named_moved-there-requires
named_moved-there-requires g c =
    let a = c.args.self.now in
    let mid = c.named_map-map.new.inside in
    let x = c.change_object-outcome.new.inside in
    let same : world_of mid ≡ world_of a = world-still a mid (subst (λ (s : ObjectsState g.row.P.Denot). IsStill s mid) c.self.view_is c.named_map-map.ensures.still) in
    let named : IsThere (world_of mid) c.named-named.result = subst (λ (w : World). IsThere w c.named-named.result) (sym same) (subst (λ (n : Option ℕ). IsThere (world_of a) n) (sym c.named-named.ensures) (there-may (world_of a) c.args.o c.args.change c.requires.may)) in
    record { there = there-then g.P.Pace.went mid x c.args.o c.args.change c.change_object-outcome.result.done c.change_object-outcome.ensures.did c.change_object-outcome.ensures.want c.named-named.result named }

pub change_object-outcome-requires-clause-honest : goal.change_object-outcome-requires-clause-honest
change_object-outcome-requires-clause-honest g c =
    subst (λ (t : Trail). IsHonest t) (sym (ap (λ (s : ObjectsState g.row.P.Denot). s.heap.view.trail) c.named_map-map.ensures.still.is)) c.self.invariant.faithful.honest

pub follow-requires : goal.follow-requires
follow-requires g c =
    let a = c.args.self.now in
    let x = c.named_moved-there.new.inside in
    let protos = c.self.inside.protos.items in
    let marks = c.self.inside.watched in
    let o = c.args.o in
    let named = c.named-named.result in
    let here = c.change_object-outcome.result.moved in
    let there = c.named_moved-there.result in
    let tell = λ (s : ObjectsState g.row.P.Denot) (sound : IsObjects s.heap.view s.kept s.of_null). let t : Told s = record { proto = λ q. c.chains_are_told.ensures.protos s q sound; ends = c.chains_are_told.ensures.ends s sound } in t in
    let known : AreKnown g.P.Pace.went = record { leaves = c.operations_leave_cells.ensures.law; spends = c.operations_spend_little.ensures.one; facts = c.fields_stay_honest.ensures.law; calms = c.prototypes_stay_calm.ensures.law } in
    let it = is-applied g.P.Pace.went known a c.named_map-map.new.inside c.change_object-outcome.new.inside x protos marks
    (subst (λ (s : ObjectsState g.row.P.Denot). IsWatching s protos marks) c.self.view_is c.self.invariant)
    (subst (λ (s : ObjectsState g.row.P.Denot). IsObjects s.heap.view s.kept s.of_null) c.self.view_is c.stands.ensures.sound)
    c.stands-2.ensures.sound o c.args.change c.requires.object c.requires.may named c.named_map-map.result c.named-named.ensures
    (subst (λ (s : ObjectsState g.row.P.Denot). IfSome named (λ p. c.named_map-map.result ≡ map_in s.heap.view.trail p)) c.self.view_is c.named_map-map.ensures.map)
    (subst (λ (s : ObjectsState g.row.P.Denot). IsStill s c.named_map-map.new.inside) c.self.view_is c.named_map-map.ensures.still)
    c.may_concern-marked.result c.may_concern-marked.ensures c.change_object-outcome.result.done here
    c.change_object-outcome.ensures.did c.change_object-outcome.ensures.want c.change_object-outcome.ensures.maps c.change_object-outcome.ensures.moved c.change_object-outcome.ensures.kept
    there c.named_moved-there.ensures.moved c.named_moved-there.ensures.kept c.named_moved-there.ensures.still in
    let longer = applied-longer a x protos marks o named here there it in
    let lt = c.requires.object in
    let object : o < length (world_of x) = omega (arith, longer, lt) in
    let named_there = there-longer (world_of a) (world_of x) named longer (subst (λ (n : Option ℕ). IsThere (world_of a) n) (sym c.named-named.ensures) (there-may (world_of a) o c.args.change c.requires.may)) in
    record {
      object = object;
      named = named_there;
      here = applied-here a x protos marks o named here there it object;
      there = applied-there a x protos marks o named here there it named_there;
      told = applied-told a x protos marks o named here there it tell c.chains_stay.ensures.law c.ways_stay.ensures.law c.marks_stay.ensures.law c.deref_mut.result.now c.deref_mut.ensures.value;
      size = applied-size a x protos marks o named here there it;
      room = applied-room a x protos marks o named here there it c.deref_mut.result.now c.deref_mut.ensures.value;
      cells = applied-cells a x protos marks o named here there it;
      watched = applied-watched a x protos marks o named here there it tell c.chains_stay.ensures.law c.ways_stay.ensures.law c.marks_stay.ensures.law;
      faithful = it.faithful;
    }

pub returns-clause-did : goal.returns-clause-did
returns-clause-did g c =
    let a = c.args.self.now in
    let x = c.named_moved-there.new.inside in
    let protos = c.self.inside.protos.items in
    let marks = c.self.inside.watched in
    let o = c.args.o in
    let named = c.named-named.result in
    let here = c.change_object-outcome.result.moved in
    let there = c.named_moved-there.result in
    let tell = λ (s : ObjectsState g.row.P.Denot) (sound : IsObjects s.heap.view s.kept s.of_null). let t : Told s = record { proto = λ q. c.chains_are_told.ensures.protos s q sound; ends = c.chains_are_told.ensures.ends s sound } in t in
    let known : AreKnown g.P.Pace.went = record { leaves = c.operations_leave_cells.ensures.law; spends = c.operations_spend_little.ensures.one; facts = c.fields_stay_honest.ensures.law; calms = c.prototypes_stay_calm.ensures.law } in
    let it = is-applied g.P.Pace.went known a c.named_map-map.new.inside c.change_object-outcome.new.inside x protos marks
    (subst (λ (s : ObjectsState g.row.P.Denot). IsWatching s protos marks) c.self.view_is c.self.invariant)
    (subst (λ (s : ObjectsState g.row.P.Denot). IsObjects s.heap.view s.kept s.of_null) c.self.view_is c.stands.ensures.sound)
    c.stands-2.ensures.sound o c.args.change c.requires.object c.requires.may named c.named_map-map.result c.named-named.ensures
    (subst (λ (s : ObjectsState g.row.P.Denot). IfSome named (λ p. c.named_map-map.result ≡ map_in s.heap.view.trail p)) c.self.view_is c.named_map-map.ensures.map)
    (subst (λ (s : ObjectsState g.row.P.Denot). IsStill s c.named_map-map.new.inside) c.self.view_is c.named_map-map.ensures.still)
    c.may_concern-marked.result c.may_concern-marked.ensures c.change_object-outcome.result.done here
    c.change_object-outcome.ensures.did c.change_object-outcome.ensures.want c.change_object-outcome.ensures.maps c.change_object-outcome.ensures.moved c.change_object-outcome.ensures.kept
    there c.named_moved-there.ensures.moved c.named_moved-there.ensures.kept c.named_moved-there.ensures.still in
    let still = subst (λ (s : ObjectsState g.row.P.Denot). IsStill s c.named_map-map.new.inside) c.self.view_is c.named_map-map.ensures.still in
    on_ok_weaker c.change_object-outcome.result.done
    (λ came. applied-done a x protos marks o named here there it tell c.chains_stay.ensures.law c.ways_stay.ensures.law c.marks_stay.ensures.law g.P.Pace.went g.met.P.Pace.goes_on c.constants_stay_on.ensures.law
    (λ (s t : ObjectsState g.row.P.Denot). Came g.P.Pace.went s (did_of o c.args.change) t) c.follow.new.inside
    (still-came g.P.Pace.went a c.named_map-map.new.inside c.change_object-outcome.new.inside x (did_of o c.args.change) still came c.named_moved-there.ensures.still) c.follow.ensures.follows c.follow.ensures.watching.cells)
    c.change_object-outcome.ensures.did

pub returns-clause-moved : goal.returns-clause-moved
returns-clause-moved g c =
    let a = c.args.self.now in
    let x = c.named_moved-there.new.inside in
    let protos = c.self.inside.protos.items in
    let marks = c.self.inside.watched in
    let o = c.args.o in
    let named = c.named-named.result in
    let here = c.change_object-outcome.result.moved in
    let there = c.named_moved-there.result in
    let tell = λ (s : ObjectsState g.row.P.Denot) (sound : IsObjects s.heap.view s.kept s.of_null). let t : Told s = record { proto = λ q. c.chains_are_told.ensures.protos s q sound; ends = c.chains_are_told.ensures.ends s sound } in t in
    let known : AreKnown g.P.Pace.went = record { leaves = c.operations_leave_cells.ensures.law; spends = c.operations_spend_little.ensures.one; facts = c.fields_stay_honest.ensures.law; calms = c.prototypes_stay_calm.ensures.law } in
    let it = is-applied g.P.Pace.went known a c.named_map-map.new.inside c.change_object-outcome.new.inside x protos marks
    (subst (λ (s : ObjectsState g.row.P.Denot). IsWatching s protos marks) c.self.view_is c.self.invariant)
    (subst (λ (s : ObjectsState g.row.P.Denot). IsObjects s.heap.view s.kept s.of_null) c.self.view_is c.stands.ensures.sound)
    c.stands-2.ensures.sound o c.args.change c.requires.object c.requires.may named c.named_map-map.result c.named-named.ensures
    (subst (λ (s : ObjectsState g.row.P.Denot). IfSome named (λ p. c.named_map-map.result ≡ map_in s.heap.view.trail p)) c.self.view_is c.named_map-map.ensures.map)
    (subst (λ (s : ObjectsState g.row.P.Denot). IsStill s c.named_map-map.new.inside) c.self.view_is c.named_map-map.ensures.still)
    c.may_concern-marked.result c.may_concern-marked.ensures c.change_object-outcome.result.done here
    c.change_object-outcome.ensures.did c.change_object-outcome.ensures.want c.change_object-outcome.ensures.maps c.change_object-outcome.ensures.moved c.change_object-outcome.ensures.kept
    there c.named_moved-there.ensures.moved c.named_moved-there.ensures.kept c.named_moved-there.ensures.still in
    let still = subst (λ (s : ObjectsState g.row.P.Denot). IsStill s c.named_map-map.new.inside) c.self.view_is c.named_map-map.ensures.still in
    on_err_weaker c.change_object-outcome.result.done
    (λ moves. inr (applied-done a x protos marks o named here there it tell c.chains_stay.ensures.law c.ways_stay.ensures.law c.marks_stay.ensures.law g.P.Pace.went g.met.P.Pace.goes_on c.constants_stay_on.ensures.law
    (λ (s t : ObjectsState g.row.P.Denot). Came g.P.Pace.went s Moved t) c.follow.new.inside
    (still-came g.P.Pace.went a c.named_map-map.new.inside c.change_object-outcome.new.inside x Moved still moves c.named_moved-there.ensures.still) c.follow.ensures.follows c.follow.ensures.watching.cells))
    c.change_object-outcome.ensures.want
