use Rattle.std.proofs.Common.{inr, ◌≡◌, ◌≢◌, ◌<◌, ℕ, true, None, length, subst, arith}
use Rattle.std.specs.Prelude.{IfSome, OnErr, OnOk}
use Rattle.std.proofs.lemmas.Result.{on_err_weaker, on_ok_weaker}
use Rattle.hc_heap.specs.Readings.{map_in}
use Rattle.hc_table.specs.Changes.{Moved}
use Rattle.hc_modes.specs.Came.{Came, Moves, world_of}
use Rattle.hc_modes.specs.State.{IsObjects, ObjectsState}
use Rattle.hc_modes.specs.Validity.{StaysPut}
use Rattle.hc_objects.specs.Changes.{IsReadied}
use Rattle.hc_objects.specs.State.{IsWatching}
use Rattle.hc_objects.proofs.Applied.{AreKnown, applied-cells, applied-done, applied-here, applied-longer, applied-room, applied-size, applied-told, applied-watched, either, is-moved}
use Rattle.hc_objects.proofs.MadeReady.{ready-moves}
use Rattle.hc_objects.proofs.Told.{Told}
use Rattle.hc_objects.proofs.objects.Objects.ready.Goals as goal

pub follow-requires : goal.follow-requires
follow-requires g c =
    let a = c.args.self.now in
    let x = c.ready_object-outcome.new.inside in
    let protos = c.self.inside.protos.items in
    let marks = c.self.inside.watched in
    let o = c.args.o in
    let here = c.ready_object-outcome.result.moved in
    let went = g.P.Pace.went in
    let view = c.self.view_is in
    let tell = λ (s : ObjectsState g.row.P.Denot) (sound : IsObjects s.heap.view s.kept s.of_null). let t : Told s = record { proto = λ q. c.chains_are_told.ensures.protos s q sound; ends = c.chains_are_told.ensures.ends s sound } in t in
    let known : AreKnown g.P.Pace.went = record { leaves = c.operations_leave_cells.ensures.law; spends = c.operations_spend_little.ensures.one; facts = c.fields_stay_honest.ensures.law; calms = c.prototypes_stay_calm.ensures.law } in
    let readied = subst (λ (s : ObjectsState g.row.P.Denot). OnOk c.ready_object-outcome.result.done (IsReadied went s o c.args.ready x)) view c.ready_object-outcome.ensures.readied in
    let want = subst (λ (s : ObjectsState g.row.P.Denot). OnErr c.ready_object-outcome.result.done (Moves went s x)) view c.ready_object-outcome.ensures.want in
    let moves = either c.ready_object-outcome.result.done (IsReadied went a o c.args.ready x) (Moves went a x) (Moves went a x) (λ is. ready-moves went a x o c.args.ready is) (λ are. are) readied want in
    let it = is-moved went known a x protos marks
    (subst (λ (s : ObjectsState g.row.P.Denot). IsWatching s protos marks) view c.self.invariant)
    (subst (λ (s : ObjectsState g.row.P.Denot). IsObjects s.heap.view s.kept s.of_null) view c.stands.ensures.sound)
    c.stands-2.ensures.sound o c.may_concern-marked.result c.may_concern-marked.ensures moves
    (subst (λ (s : ObjectsState g.row.P.Denot). (q : ℕ) → q ≢ o → map_in x.heap.view.trail q ≡ map_in s.heap.view.trail q) view c.ready_object-outcome.ensures.maps) here
    (subst (λ (s : ObjectsState g.row.P.Denot). IfSome here (λ q. (q ≡ o) × (StaysPut s x o → ⊥))) view c.ready_object-outcome.ensures.moved)
    (subst (λ (s : ObjectsState g.row.P.Denot). c.may_concern-marked.result ≡ true → here ≡ None → StaysPut s x o) view c.ready_object-outcome.ensures.kept) in
    let longer = applied-longer a x protos marks o None here None it in
    let lt = c.requires.object in
    let object : o < length (world_of x) = omega (arith, longer, lt) in
    record {
      object = object;
      named = tt;
      here = applied-here a x protos marks o None here None it object;
      there = tt;
      told = applied-told a x protos marks o None here None it tell c.chains_stay.ensures.law c.ways_stay.ensures.law c.marks_stay.ensures.law c.deref_mut.result.now c.deref_mut.ensures.value;
      size = applied-size a x protos marks o None here None it;
      room = applied-room a x protos marks o None here None it c.deref_mut.result.now c.deref_mut.ensures.value;
      cells = applied-cells a x protos marks o None here None it;
      watched = applied-watched a x protos marks o None here None it tell c.chains_stay.ensures.law c.ways_stay.ensures.law c.marks_stay.ensures.law;
      faithful = it.faithful;
    }

pub returns-clause-readied : goal.returns-clause-readied
returns-clause-readied g c =
    let a = c.args.self.now in
    let x = c.ready_object-outcome.new.inside in
    let protos = c.self.inside.protos.items in
    let marks = c.self.inside.watched in
    let o = c.args.o in
    let here = c.ready_object-outcome.result.moved in
    let went = g.P.Pace.went in
    let view = c.self.view_is in
    let tell = λ (s : ObjectsState g.row.P.Denot) (sound : IsObjects s.heap.view s.kept s.of_null). let t : Told s = record { proto = λ q. c.chains_are_told.ensures.protos s q sound; ends = c.chains_are_told.ensures.ends s sound } in t in
    let known : AreKnown g.P.Pace.went = record { leaves = c.operations_leave_cells.ensures.law; spends = c.operations_spend_little.ensures.one; facts = c.fields_stay_honest.ensures.law; calms = c.prototypes_stay_calm.ensures.law } in
    let readied = subst (λ (s : ObjectsState g.row.P.Denot). OnOk c.ready_object-outcome.result.done (IsReadied went s o c.args.ready x)) view c.ready_object-outcome.ensures.readied in
    let want = subst (λ (s : ObjectsState g.row.P.Denot). OnErr c.ready_object-outcome.result.done (Moves went s x)) view c.ready_object-outcome.ensures.want in
    let moves = either c.ready_object-outcome.result.done (IsReadied went a o c.args.ready x) (Moves went a x) (Moves went a x) (λ is. ready-moves went a x o c.args.ready is) (λ are. are) readied want in
    let it = is-moved went known a x protos marks
    (subst (λ (s : ObjectsState g.row.P.Denot). IsWatching s protos marks) view c.self.invariant)
    (subst (λ (s : ObjectsState g.row.P.Denot). IsObjects s.heap.view s.kept s.of_null) view c.stands.ensures.sound)
    c.stands-2.ensures.sound o c.may_concern-marked.result c.may_concern-marked.ensures moves
    (subst (λ (s : ObjectsState g.row.P.Denot). (q : ℕ) → q ≢ o → map_in x.heap.view.trail q ≡ map_in s.heap.view.trail q) view c.ready_object-outcome.ensures.maps) here
    (subst (λ (s : ObjectsState g.row.P.Denot). IfSome here (λ q. (q ≡ o) × (StaysPut s x o → ⊥))) view c.ready_object-outcome.ensures.moved)
    (subst (λ (s : ObjectsState g.row.P.Denot). c.may_concern-marked.result ≡ true → here ≡ None → StaysPut s x o) view c.ready_object-outcome.ensures.kept) in
    on_ok_weaker c.ready_object-outcome.result.done
    (λ is. applied-done a x protos marks o None here None it tell c.chains_stay.ensures.law c.ways_stay.ensures.law c.marks_stay.ensures.law went g.met.P.Pace.goes_on c.constants_stay_on.ensures.law
    (λ (s t : ObjectsState g.row.P.Denot). IsReadied went s o c.args.ready t) c.follow.new.inside is c.follow.ensures.follows c.follow.ensures.watching.cells)
    readied

pub returns-clause-moved : goal.returns-clause-moved
returns-clause-moved g c =
    let a = c.args.self.now in
    let x = c.ready_object-outcome.new.inside in
    let protos = c.self.inside.protos.items in
    let marks = c.self.inside.watched in
    let o = c.args.o in
    let here = c.ready_object-outcome.result.moved in
    let went = g.P.Pace.went in
    let view = c.self.view_is in
    let tell = λ (s : ObjectsState g.row.P.Denot) (sound : IsObjects s.heap.view s.kept s.of_null). let t : Told s = record { proto = λ q. c.chains_are_told.ensures.protos s q sound; ends = c.chains_are_told.ensures.ends s sound } in t in
    let known : AreKnown g.P.Pace.went = record { leaves = c.operations_leave_cells.ensures.law; spends = c.operations_spend_little.ensures.one; facts = c.fields_stay_honest.ensures.law; calms = c.prototypes_stay_calm.ensures.law } in
    let readied = subst (λ (s : ObjectsState g.row.P.Denot). OnOk c.ready_object-outcome.result.done (IsReadied went s o c.args.ready x)) view c.ready_object-outcome.ensures.readied in
    let want = subst (λ (s : ObjectsState g.row.P.Denot). OnErr c.ready_object-outcome.result.done (Moves went s x)) view c.ready_object-outcome.ensures.want in
    let moves = either c.ready_object-outcome.result.done (IsReadied went a o c.args.ready x) (Moves went a x) (Moves went a x) (λ is. ready-moves went a x o c.args.ready is) (λ are. are) readied want in
    let it = is-moved went known a x protos marks
    (subst (λ (s : ObjectsState g.row.P.Denot). IsWatching s protos marks) view c.self.invariant)
    (subst (λ (s : ObjectsState g.row.P.Denot). IsObjects s.heap.view s.kept s.of_null) view c.stands.ensures.sound)
    c.stands-2.ensures.sound o c.may_concern-marked.result c.may_concern-marked.ensures moves
    (subst (λ (s : ObjectsState g.row.P.Denot). (q : ℕ) → q ≢ o → map_in x.heap.view.trail q ≡ map_in s.heap.view.trail q) view c.ready_object-outcome.ensures.maps) here
    (subst (λ (s : ObjectsState g.row.P.Denot). IfSome here (λ q. (q ≡ o) × (StaysPut s x o → ⊥))) view c.ready_object-outcome.ensures.moved)
    (subst (λ (s : ObjectsState g.row.P.Denot). c.may_concern-marked.result ≡ true → here ≡ None → StaysPut s x o) view c.ready_object-outcome.ensures.kept) in
    on_err_weaker c.ready_object-outcome.result.done
    (λ are. inr (applied-done a x protos marks o None here None it tell c.chains_stay.ensures.law c.ways_stay.ensures.law c.marks_stay.ensures.law went g.met.P.Pace.goes_on c.constants_stay_on.ensures.law
    (λ (s t : ObjectsState g.row.P.Denot). Came went s Moved t) c.follow.new.inside are c.follow.ensures.follows c.follow.ensures.watching.cells))
    want
