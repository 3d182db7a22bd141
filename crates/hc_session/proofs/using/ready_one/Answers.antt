use Rattle.hc_session.proofs.Uses.{result-loads, result-readied, result-tables}
use Rattle.hc_session.proofs.using.ready_one.Goals as goal

pub returns-clause-readied : goal.returns-clause-readied
returns-clause-readied g c = result-readied g.P.Pace.went c.args.objects.now c.migrate-done.new.self c.args.o c.migrate-done.result c.migrate-done.ensures.made

pub returns-clause-loads : goal.returns-clause-loads
returns-clause-loads g c =
    result-loads g.P.Pace.went c.args.objects.now c.migrate-done.new.self c.args.o c.migrate-done.result c.stands.ensures.desk c.stands-2.ensures.desk c.migrate-done.ensures.made c.migrate-done.ensures.live c.migrate-done.ensures.loads

pub returns-clause-tables : goal.returns-clause-tables
returns-clause-tables g c = result-tables g.P.Pace.went c.args.objects.now c.migrate-done.new.self c.args.o c.migrate-done.result c.migrate-done.ensures.made c.migrate-done.ensures.moved
