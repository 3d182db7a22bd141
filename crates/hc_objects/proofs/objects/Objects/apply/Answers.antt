use Rattle.std.proofs.lemmas.Result.{on_err_weaker, on_ok_weaker}
use Rattle.hc_objects.specs.Laws.{live-once}
use Rattle.hc_objects.proofs.Made.{change-made, moves-three, moves-two, on-err, ready-once}
use Rattle.hc_objects.proofs.objects.Objects.apply.Goals as goal

pub returns-in_err-ready_for-clause-moved : goal.returns-in_err-ready_for-clause-moved
returns-in_err-ready_for-clause-moved g c =
    let a = c.args.self.now in
    let s = c.migrate.new.self in
    let t = c.ready_for.new.self in
    on-err c.from_residual-in_err-ready_for.result _ (moves-two g.P.Pace.went a s t (live-once g.P.Pace.went a s c.args.o c.in_ok-migrate.ensures.made) c.in_err-ready_for.ensures.moved)

pub returns-clause-did : goal.returns-clause-did
returns-clause-did g c =
    on_ok_weaker c.change.result
    (λ done. change-made g.P.Pace.went c.args.self.now c.migrate.new.self c.ready_for.new.self c.change.new.self c.args.o c.args.change c.in_ok-migrate.ensures.made c.in_ok-ready_for.ensures.readied done)
    c.change.ensures.did

pub returns-clause-moved : goal.returns-clause-moved
returns-clause-moved g c =
    let a = c.args.self.now in
    let s = c.migrate.new.self in
    let t = c.ready_for.new.self in
    on_err_weaker c.change.result
    (λ once. moves-three g.P.Pace.went a s t c.change.new.self (live-once g.P.Pace.went a s c.args.o c.in_ok-migrate.ensures.made) (ready-once g.P.Pace.went s t c.args.o c.args.change c.in_ok-ready_for.ensures.readied) once)
    c.change.ensures.moved
