use Rattle.std.proofs.Common.{◌<◌, length, sym, ap, ◌∙◌, subst}
use Rattle.std.specs.Prelude.{is_none, Option}
use Rattle.std.proofs.Common.{ℕ}
use Rattle.std.proofs.lemmas.Result.{on_err_weaker, on_ok_weaker}
use Rattle.hc_table.specs.Changes.{Moved}
use Rattle.hc_table.specs.World.{World}
use Rattle.hc_heap.specs.Writes.{Trail}
use Rattle.hc_modes.specs.Admitting.{IsHonest}
use Rattle.hc_modes.specs.Laws.{still-on}
use Rattle.hc_modes.specs.State.{ObjectsState}
use Rattle.hc_objects.specs.Changes.{AltersSlow, did_of}
use Rattle.hc_objects.proofs.Applied.{sound-still, still-came, still-map}
use Rattle.hc_objects.proofs.Moving.{change-kept, there-after}
use Rattle.hc_objects.proofs.Restricting.{world-still}
use Rattle.hc_objects.proofs.Told.{count-world}
use Rattle.hc_objects.proofs.performing.change_object.Goals as goal

pub perform-done-requires-2-clause-honest : goal.perform-done-requires-2-clause-honest
perform-done-requires-2-clause-honest g c =
    let still = still-on c.args.inside.now c.map_of-before.new.self c.alters_slow-altered.new.inside c.map_of-before.ensures.still c.alters_slow-altered.ensures.still in
    subst (λ (t : Trail). IsHonest t) (sym (ap (λ (s : ObjectsState g.row.P.Denot). s.heap.view.trail) still.is)) c.requires.honest

pub map_of-now-requires : goal.map_of-now-requires
map_of-now-requires g c =
    let a = c.args.inside.now in
    let mid = c.alters_slow-altered.new.inside in
    let same = world-still a mid (still-on a c.map_of-before.new.self mid c.map_of-before.ensures.still c.alters_slow-altered.ensures.still) in
    record { there = there-after g.P.Pace.went mid c.perform-done-2.new.inside c.args.o c.args.change c.perform-done-2.result c.perform-done-2.ensures.did c.perform-done-2.ensures.moved (subst (λ (w : World). c.args.o < length w) (sym same) c.requires.object) }

pub returns-clause-did : goal.returns-clause-did
returns-clause-did g c =
    let a = c.args.inside.now in
    let mid = c.alters_slow-altered.new.inside in
    on_ok_weaker c.perform-done-2.result
    (λ came. still-came g.P.Pace.went a mid c.perform-done-2.new.inside c.map_of-now.new.self (did_of c.args.o c.args.change) (still-on a c.map_of-before.new.self mid c.map_of-before.ensures.still c.alters_slow-altered.ensures.still) came c.map_of-now.ensures.still)
    c.perform-done-2.ensures.did

pub returns-clause-want : goal.returns-clause-want
returns-clause-want g c =
    let a = c.args.inside.now in
    let mid = c.alters_slow-altered.new.inside in
    on_err_weaker c.perform-done-2.result
    (λ moves. still-came g.P.Pace.went a mid c.perform-done-2.new.inside c.map_of-now.new.self Moved (still-on a c.map_of-before.new.self mid c.map_of-before.ensures.still c.alters_slow-altered.ensures.still) moves c.map_of-now.ensures.still)
    c.perform-done-2.ensures.moved

pub returns-clause-kept : goal.returns-clause-kept
returns-clause-kept g c = λ marked none.
    let a = c.args.inside.now in
    let mid = c.alters_slow-altered.new.inside in
    let bare = c.perform-done-2.new.inside in
    let x = c.map_of-now.new.self in
    let sound = c.stands.ensures.sound in
    let sound_x = sound-still bare x c.map_of-now.ensures.still c.stands-2.ensures.sound in
    let before = still-on a c.map_of-before.new.self mid c.map_of-before.ensures.still c.alters_slow-altered.ensures.still in
    let there : c.args.o < length a.kept = subst (λ (n : ℕ). c.args.o < n) (count-world a) c.requires.object in
    let slow_is = ap (λ (k : Option ℕ). is_none k) c.map_of-before.ensures.value in
    let alters = subst (λ (w : World). AltersSlow w c.args.o (is_none c.map_of-before.result) c.args.change c.alters_slow-altered.result) (world-still a c.map_of-before.new.self c.map_of-before.ensures.still) c.alters_slow-altered.ensures.alters in
    change-kept g.P.Pace.went a x sound c.args.o there c.args.change (is_none c.map_of-before.result) c.alters_slow-altered.result c.is_altered.result slow_is alters
    c.perform-done-2.result
    (on_ok_weaker c.perform-done-2.result (λ came. still-came g.P.Pace.went a mid bare x (did_of c.args.o c.args.change) before came c.map_of-now.ensures.still) c.perform-done-2.ensures.did)
    (on_err_weaker c.perform-done-2.result (λ moves. still-came g.P.Pace.went a mid bare x Moved before moves c.map_of-now.ensures.still) c.perform-done-2.ensures.moved)
    c.is_altered.ensures.done
    (record { proto = λ q. c.chains_are_told.ensures.protos a q sound; ends = c.chains_are_told.ensures.ends a sound })
    (record { proto = λ q. c.chains_are_told.ensures.protos x q sound_x; ends = c.chains_are_told.ensures.ends x sound_x })
    c.gates_are_open.ensures.law c.written_is_kept.ensures.law
    (λ did came. (c.fields_stay_honest.ensures.law a x did sound came).goes)
    (still-map bare x c.map_of-now.ensures.still c.args.o ∙ sym c.map_of-now.ensures.value ∙ c.if_changed-moved.ensures.map none ∙ c.map_of-before.ensures.value)
    (c.if_changed-moved.ensures.same none)
