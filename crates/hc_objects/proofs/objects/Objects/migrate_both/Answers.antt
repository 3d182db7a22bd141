use Rattle.std.proofs.lemmas.Result.{on_ok_weaker}
use Rattle.hc_objects.specs.Laws.{live-once}
use Rattle.hc_objects.proofs.Applied.{either}
use Rattle.hc_objects.proofs.Made.{both-live, moves-three, moves-two}
use Rattle.hc_objects.proofs.objects.Objects.migrate_both.Goals as goal

pub returns-in_err-migrate-2-clause-moved : goal.returns-in_err-migrate-2-clause-moved
returns-in_err-migrate-2-clause-moved g c =
    let a = c.args.self.now in
    let s = c.migrate.new.self in
    let u = c.migrate-2.new.self in
    moves-two g.P.Pace.went a s u (live-once g.P.Pace.went a s c.args.a c.in_ok-migrate.ensures.made) c.in_err-migrate-2.ensures.once

pub returns-clause-live_b : goal.returns-clause-live_b
returns-clause-live_b g c =
    on_ok_weaker c.migrate-3.result
    (λ made. both-live g.P.Pace.went c.alike_objects_stay_live.ensures.law c.migrate.new.self c.migrate-2.new.self c.migrate-3.new.self c.args.a c.args.b c.stands.ensures.sound c.in_ok-migrate.ensures.live c.in_ok-migrate-2.ensures.made made)
    c.migrate-3.ensures.made

pub returns-clause-made : goal.returns-clause-made
returns-clause-made g c =
    on_ok_weaker c.migrate-3.result (λ made. (c.migrate.new.self, c.migrate-2.new.self, c.in_ok-migrate.ensures.made, c.in_ok-migrate-2.ensures.made, made)) c.migrate-3.ensures.made

pub returns-clause-moved : goal.returns-clause-moved
returns-clause-moved g c =
    let a = c.args.self.now in
    let s = c.migrate.new.self in
    let u = c.migrate-2.new.self in
    let v = c.migrate-3.new.self in
    let first = live-once g.P.Pace.went a s c.args.a c.in_ok-migrate.ensures.made in
    let second = live-once g.P.Pace.went s u c.args.b c.in_ok-migrate-2.ensures.made in
    either c.migrate-3.result _ _ _ (λ made. moves-three g.P.Pace.went a s u v first second (live-once g.P.Pace.went u v c.args.a made)) (λ once. moves-three g.P.Pace.went a s u v first second once) c.migrate-3.ensures.made c.migrate-3.ensures.once
