use Rattle.std.proofs.Common.{◌<◌, ◌≤◌, length, refl, arith}
use Rattle.hc_objects.specs.Came.{world_of}
use Rattle.hc_commands.specs.declared.command.Command.TheVariants.{Shape}
use Rattle.hc_session.specs.Tables.{is_among}
use Rattle.hc_session.proofs.Accessed.{among-is, among-not, on-err}
use Rattle.hc_session.proofs.Readied.{moved-tables}
use Rattle.hc_session.proofs.Uses.{readied-if, readied-not}
use Rattle.hc_session.proofs.perform.tell_shape.Goals as goal

pub returns-then-o-count-clause-readied : goal.returns-then-o-count-clause-readied
returns-then-o-count-clause-readied g c =
    let past : length (world_of c.args.objects.now) ≤ c.args.o = omega (arith, c.if-o-count.true, c.count.ensures.count) in
    readied-not g.P.Pace.went c.args.objects.now (is_among (length (world_of c.args.objects.now)) c.args.o) (Shape c.args.o) (among-not (length (world_of c.args.objects.now)) c.args.o past)

pub returns-in_err-shape-clause-want : goal.returns-in_err-shape-clause-want
returns-in_err-shape-clause-want g c = on-err c.from_residual.result c.in_err-shape.ensures.moved

pub returns-in_err-shape-clause-tables : goal.returns-in_err-shape-clause-tables
returns-in_err-shape-clause-tables g c = moved-tables g.P.Pace.went c.args.objects.now c.shape.new.self c.in_err-shape.ensures.moved

pub returns-clause-readied : goal.returns-clause-readied
returns-clause-readied g c =
    let there : c.args.o < length (world_of c.args.objects.now) = omega (arith, c.if-o-count.false, c.count.ensures.count) in
    readied-if g.P.Pace.went c.args.objects.now c.shape.new.self (is_among (length (world_of c.args.objects.now)) c.args.o) (Shape c.args.o) (among-is (length (world_of c.args.objects.now)) c.args.o there)
    (c.shape.new.self, c.in_ok-shape.ensures.made, refl)
