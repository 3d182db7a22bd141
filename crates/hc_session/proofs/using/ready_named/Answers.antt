use Rattle.hc_session.specs.Using.{named_if}
use Rattle.hc_session.proofs.Uses.{result-first}
use Rattle.hc_session.proofs.using.ready_named.Goals as goal

pub returns-in-Some-clause-moves : goal.returns-in-Some-clause-moves
returns-in-Some-clause-moves g c = result-first g.P.Pace.went c.args.objects.now c.ready_one.new.objects (named_if c.args.named) c.ready_one.result c.ready_one.ensures.moves
