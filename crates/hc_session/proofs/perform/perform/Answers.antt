use Rattle.std.proofs.Common.{OnOk, sym, subst}
use Rattle.hc_commands.specs.declared.command.Command.{Command}
use Rattle.hc_session.specs.Standing.{tables_of}
use Rattle.hc_session.specs.State.{Used}
use Rattle.hc_session.specs.Tables.{all_there, did_by}
use Rattle.hc_session.specs.Using.{uses_if}
use Rattle.hc_session.proofs.Uses.{result-first, same-used, shape-used}
use Rattle.hc_session.proofs.perform.perform.Goals as goal

pub returns-in-Shape-clause-used : goal.returns-in-Shape-clause-used
returns-in-Shape-clause-used g c =
    subst (λ (x : Command). OnOk c.tell_shape.result (Used g.P.Pace.went c.args.objects.now (all_there (tables_of c.args.objects.now) x) x (did_by (tables_of c.args.objects.now) x) c.tell_shape.new.objects)) (sym c.in-Shape.is)
    (shape-used g.P.Pace.went c.args.objects.now c.tell_shape.new.objects c.in-Shape.o c.tell_shape.result c.tell_shape.ensures.readied)

pub returns-in-Shape-clause-want : goal.returns-in-Shape-clause-want
returns-in-Shape-clause-want g c =
    result-first g.P.Pace.went c.args.objects.now c.tell_shape.new.objects (uses_if (all_there (tables_of c.args.objects.now) c.args.command.now) c.args.command.now) c.tell_shape.result c.tell_shape.ensures.want

pub returns-in-Same-clause-used : goal.returns-in-Same-clause-used
returns-in-Same-clause-used g c =
    subst (λ (x : Command). OnOk c.tell_same.result (Used g.P.Pace.went c.args.objects.now (all_there (tables_of c.args.objects.now) x) x (did_by (tables_of c.args.objects.now) x) c.tell_same.new.objects)) (sym c.in-Same.is)
    (same-used g.P.Pace.went c.args.objects.now c.tell_same.new.objects c.in-Same.a c.in-Same.b c.tell_same.result c.tell_same.ensures.readied)

pub returns-in-Same-clause-want : goal.returns-in-Same-clause-want
returns-in-Same-clause-want g c =
    result-first g.P.Pace.went c.args.objects.now c.tell_same.new.objects (uses_if (all_there (tables_of c.args.objects.now) c.args.command.now) c.args.command.now) c.tell_same.result c.tell_same.ensures.want
