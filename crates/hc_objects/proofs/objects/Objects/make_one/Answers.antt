use Rattle.std.proofs.Common.{◌≡◌, ◌<◌, None, length, ap, subst, arith}
use Rattle.std.specs.Prelude.{IfSome}
use Rattle.hc_heap.specs.Readings.{map_in}
use Rattle.hc_table.specs.Changes.{Created}
use Rattle.hc_modes.specs.Came.{Came, IsStill, world_of}
use Rattle.hc_modes.specs.State.{IsObjects, ObjectsState}
use Rattle.hc_objects.specs.State.{IsWatching}
use Rattle.hc_objects.proofs.Applied.{AreKnown, applied-cells, applied-done, applied-longer, applied-room, applied-size, applied-there, applied-told, applied-watched, is-made, still-came, there-longer}
use Rattle.hc_objects.proofs.Beside.{created-count}
use Rattle.hc_objects.proofs.Restricting.{world-still}
use Rattle.hc_objects.proofs.Told.{Told, count-world}
use Rattle.hc_objects.proofs.objects.Objects.make_one.Goals as goal

pub follow-requires : goal.follow-requires
follow-requires g c =
    let a = c.args.self.now in
    let x = c.named_moved-there.new.inside in
    let protos = c.self.inside.protos.items in
    let marks = c.self.inside.watched in
    let o = c.in-Ok.o in
    let there = c.named_moved-there.result in
    let tell = λ (s : ObjectsState g.row.P.Denot) (sound : IsObjects s.heap.view s.kept s.of_null). let t : Told s = record { proto = λ q. c.chains_are_told.ensures.protos s q sound; ends = c.chains_are_told.ensures.ends s sound } in t in
    let known : AreKnown g.P.Pace.went = record { leaves = c.operations_leave_cells.ensures.law; spends = c.operations_spend_little.ensures.one; facts = c.fields_stay_honest.ensures.law; calms = c.prototypes_stay_calm.ensures.law } in
    let still = subst (λ (s : ObjectsState g.row.P.Denot). IsStill s c.named_map-map.new.inside) c.self.view_is c.named_map-map.ensures.still in
    let it = is-made g.P.Pace.went c.unused_says_nothing.ensures.law tell known a c.named_map-map.new.inside c.create-made.new.self x protos marks
    (subst (λ (s : ObjectsState g.row.P.Denot). IsWatching s protos marks) c.self.view_is c.self.invariant)
    (subst (λ (s : ObjectsState g.row.P.Denot). IsObjects s.heap.view s.kept s.of_null) c.self.view_is c.stands.ensures.sound)
    c.stands-3.ensures.sound o c.args.proto c.named_map-map.result c.requires.there c.in-Ok.ensures.number
    (subst (λ (s : ObjectsState g.row.P.Denot). IfSome c.args.proto (λ p. c.named_map-map.result ≡ map_in s.heap.view.trail p)) c.self.view_is c.named_map-map.ensures.map)
    still c.in-Ok.ensures.did there c.named_moved-there.ensures.moved c.named_moved-there.ensures.kept c.named_moved-there.ensures.still in
    let before : length (world_of c.named_map-map.new.inside) ≡ length (world_of a) = ap length (world-still a c.named_map-map.new.inside still) in
    let is = c.in-Ok.ensures.number in
    let count = created-count g.P.Pace.went c.unused_says_nothing.ensures.law a x it.sound_a it.sound_x c.args.proto (still-came g.P.Pace.went a c.named_map-map.new.inside c.create-made.new.self x (Created c.args.proto) still c.in-Ok.ensures.did c.named_moved-there.ensures.still) in
    let size = count-world a in
    let after = count-world x in
    let object : o < length (world_of x) = omega (arith, before, is, count, size, after) in
    let named_there = there-longer (world_of a) (world_of x) c.args.proto (applied-longer a x protos marks o c.args.proto None there it) c.requires.there in
    record {
      object = object;
      named = named_there;
      here = tt;
      there = applied-there a x protos marks o c.args.proto None there it named_there;
      told = applied-told a x protos marks o c.args.proto None there it tell c.chains_stay.ensures.law c.ways_stay.ensures.law c.marks_stay.ensures.law c.deref_mut.result.now c.deref_mut.ensures.value;
      size = applied-size a x protos marks o c.args.proto None there it;
      room = applied-room a x protos marks o c.args.proto None there it c.deref_mut.result.now c.deref_mut.ensures.value;
      cells = applied-cells a x protos marks o c.args.proto None there it;
      watched = applied-watched a x protos marks o c.args.proto None there it tell c.chains_stay.ensures.law c.ways_stay.ensures.law c.marks_stay.ensures.law;
      faithful = it.faithful;
    }

pub returns-clause-did : goal.returns-clause-did
returns-clause-did g c =
    let a = c.args.self.now in
    let x = c.named_moved-there.new.inside in
    let protos = c.self.inside.protos.items in
    let marks = c.self.inside.watched in
    let o = c.in-Ok.o in
    let there = c.named_moved-there.result in
    let tell = λ (s : ObjectsState g.row.P.Denot) (sound : IsObjects s.heap.view s.kept s.of_null). let t : Told s = record { proto = λ q. c.chains_are_told.ensures.protos s q sound; ends = c.chains_are_told.ensures.ends s sound } in t in
    let known : AreKnown g.P.Pace.went = record { leaves = c.operations_leave_cells.ensures.law; spends = c.operations_spend_little.ensures.one; facts = c.fields_stay_honest.ensures.law; calms = c.prototypes_stay_calm.ensures.law } in
    let still = subst (λ (s : ObjectsState g.row.P.Denot). IsStill s c.named_map-map.new.inside) c.self.view_is c.named_map-map.ensures.still in
    let it = is-made g.P.Pace.went c.unused_says_nothing.ensures.law tell known a c.named_map-map.new.inside c.create-made.new.self x protos marks
    (subst (λ (s : ObjectsState g.row.P.Denot). IsWatching s protos marks) c.self.view_is c.self.invariant)
    (subst (λ (s : ObjectsState g.row.P.Denot). IsObjects s.heap.view s.kept s.of_null) c.self.view_is c.stands.ensures.sound)
    c.stands-3.ensures.sound o c.args.proto c.named_map-map.result c.requires.there c.in-Ok.ensures.number
    (subst (λ (s : ObjectsState g.row.P.Denot). IfSome c.args.proto (λ p. c.named_map-map.result ≡ map_in s.heap.view.trail p)) c.self.view_is c.named_map-map.ensures.map)
    still c.in-Ok.ensures.did there c.named_moved-there.ensures.moved c.named_moved-there.ensures.kept c.named_moved-there.ensures.still in
    applied-done a x protos marks o c.args.proto None there it tell c.chains_stay.ensures.law c.ways_stay.ensures.law c.marks_stay.ensures.law g.P.Pace.went g.met.P.Pace.goes_on c.constants_stay_on.ensures.law
    (λ (s t : ObjectsState g.row.P.Denot). Came g.P.Pace.went s (Created c.args.proto) t) c.follow.new.inside
    (still-came g.P.Pace.went a c.named_map-map.new.inside c.create-made.new.self x (Created c.args.proto) still c.in-Ok.ensures.did c.named_moved-there.ensures.still) c.follow.ensures.follows c.follow.ensures.watching.cells
