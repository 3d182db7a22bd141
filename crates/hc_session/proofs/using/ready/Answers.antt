use Rattle.hc_session.proofs.Uses.{both-readied, both-wanted, first-wanted}
use Rattle.hc_session.proofs.using.ready.Goals as goal

pub returns-in_err-ready_named-clause-moves : goal.returns-in_err-ready_named-clause-moves
returns-in_err-ready_named-clause-moves g c =
    first-wanted g.P.Pace.went c.args.objects.now c.ready_named.new.objects c.object_of.result c.args.command.now c.from_residual.result c.requires.tables c.object_of.ensures c.in_err-ready_named.ensures.moves

pub returns-clause-readied : goal.returns-clause-readied
returns-clause-readied g c =
    both-readied g.P.Pace.went c.args.objects.now c.ready_named.new.objects c.ready_named-2.new.objects c.object_of.result c.proto_of.result c.args.command.now c.ready_named-2.result c.requires.tables c.object_of.ensures c.proto_of.ensures c.in_ok-ready_named.ensures.readied c.ready_named-2.ensures.readied

pub returns-clause-moves : goal.returns-clause-moves
returns-clause-moves g c =
    both-wanted g.P.Pace.went c.args.objects.now c.ready_named.new.objects c.ready_named-2.new.objects c.object_of.result c.proto_of.result c.args.command.now c.ready_named-2.result c.requires.tables c.object_of.ensures c.proto_of.ensures c.in_ok-ready_named.ensures.readied c.ready_named-2.ensures.moves
