use Rattle.std.proofs.Common.{◌<◌, length, sym, ap, ◌∙◌, subst}
use Rattle.std.proofs.lemmas.Result.{on_err_weaker, on_ok_weaker}
use Rattle.hc_heap.specs.Writes.{Trail}
use Rattle.hc_table.specs.Changes.{Moved}
use Rattle.hc_table.specs.World.{World}
use Rattle.hc_modes.specs.Admitting.{IsHonest}
use Rattle.hc_modes.specs.State.{ObjectsState}
use Rattle.hc_objects.proofs.Applied.{still-came, still-map}
use Rattle.hc_objects.proofs.Beside.{wanted-put, wanted-world}
use Rattle.hc_objects.proofs.MadeReady.{ready-after, ready-before, ready-either}
use Rattle.hc_objects.proofs.Restricting.{world-still}
use Rattle.hc_objects.proofs.readying.ready_object.Goals as goal

pub make_ready-done-requires-2-clause-honest : goal.make_ready-done-requires-2-clause-honest
make_ready-done-requires-2-clause-honest g c =
    subst (λ (t : Trail). IsHonest t) (sym (ap (λ (s : ObjectsState g.row.P.Denot). s.heap.view.trail) c.map_of-before.ensures.still.is)) c.requires.honest

pub map_of-now-requires : goal.map_of-now-requires
map_of-now-requires g c =
    let a = c.args.inside.now in
    let mid = c.map_of-before.new.self in
    let x = c.make_ready-done-2.new.inside in
    let moves = ready-either g.P.Pace.went mid x c.args.o c.args.ready c.make_ready-done-2.result c.make_ready-done-2.ensures.readied c.make_ready-done-2.ensures.moved in
    record { there = subst (λ (w : World). c.args.o < length w) (sym (wanted-world g.P.Pace.went mid x c.args.o moves ∙ world-still a mid c.map_of-before.ensures.still)) c.requires.object }

pub returns-clause-readied : goal.returns-clause-readied
returns-clause-readied g c =
    let a = c.args.inside.now in
    let mid = c.map_of-before.new.self in
    let x = c.make_ready-done-2.new.inside in
    let b = c.map_of-now.new.self in
    on_ok_weaker c.make_ready-done-2.result
    (λ is. ready-after g.P.Pace.went a x b c.args.o c.args.ready (ready-before g.P.Pace.went a mid x c.args.o c.args.ready c.map_of-before.ensures.still is) c.map_of-now.ensures.still)
    c.make_ready-done-2.ensures.readied

pub returns-clause-want : goal.returns-clause-want
returns-clause-want g c =
    on_err_weaker c.make_ready-done-2.result
    (λ are. still-came g.P.Pace.went c.args.inside.now c.map_of-before.new.self c.make_ready-done-2.new.inside c.map_of-now.new.self Moved c.map_of-before.ensures.still are c.map_of-now.ensures.still)
    c.make_ready-done-2.ensures.moved

pub returns-clause-kept : goal.returns-clause-kept
returns-clause-kept g c = λ marked none.
    let a = c.args.inside.now in
    let mid = c.map_of-before.new.self in
    let x = c.make_ready-done-2.new.inside in
    let b = c.map_of-now.new.self in
    let moves = ready-either g.P.Pace.went mid x c.args.o c.args.ready c.make_ready-done-2.result c.make_ready-done-2.ensures.readied c.make_ready-done-2.ensures.moved in
    wanted-put g.P.Pace.went a b c.args.o
    (still-came g.P.Pace.went a mid x b Moved c.map_of-before.ensures.still moves c.map_of-now.ensures.still) c.args.o
    (still-map x b c.map_of-now.ensures.still c.args.o ∙ sym c.map_of-now.ensures.value ∙ c.if_changed-moved.ensures.map none ∙ c.map_of-before.ensures.value)
