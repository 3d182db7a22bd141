use Rattle.std.proofs.Common.{◌≡◌, Ok, Err, refl, sym, subst}
use Rattle.std.specs.Prelude.{IfOk, OnErr, Result}
use Rattle.hc_commands.specs.declared.command.Command.{Command}
use Rattle.hc_session.specs.Serving.{Serves}
use Rattle.hc_session.specs.Standing.{plain_with}
use Rattle.hc_session.specs.State.{NotedInWant}
use Rattle.hc_session.specs.Using.{MovesInWant, is_accepted, uses_if}
use Rattle.hc_session.proofs.Obeys.{of_objects, result_left, result_same, result_still, result_with}
use Rattle.hc_session.proofs.serve.serve.Goals as goal

pub returns-in-Declare-clause-serves : goal.returns-in-Declare-clause-serves
returns-in-Declare-clause-serves g c =
    subst (λ (x : Command). IfOk c.declare.result (λ reply. Serves g.P.Pace.went c.args.objects.now c.args.sites.now c.args.log.now.lines x reply c.args.objects.now c.declare.new.sites c.args.log.now.lines)) (sym c.in-Declare.is)
    (result_with g.P.Pace.went c.args.objects.now c.args.objects.now c.args.sites.now c.declare.new.sites _ c.declare.result c.args.log.now.lines c.declare.ensures.serves)

pub returns-in-Declare-clause-wants : goal.returns-in-Declare-clause-wants
returns-in-Declare-clause-wants g c = result_still g.P.Pace.went c.args.objects.now _ c.declare.result

same_lines : {A B T : Type 0} (r : Result A B) (x : T) → OnErr r (x ≡ x)
same_lines {A} {B} {T} (Ok y) x = tt
same_lines {A} {B} {T} (Err fault) x = refl

pub returns-in-Declare-clause-noted : goal.returns-in-Declare-clause-noted
returns-in-Declare-clause-noted g c =
    result_same g.P.Pace.went c.args.objects.now c.args.sites.now c.declare.new.sites c.args.log.now.lines c.args.log.now.lines c.args.command.now c.declare.result c.declare.ensures.same (same_lines c.declare.result c.args.log.now.lines)

pub returns-in-Exec-clause-serves : goal.returns-in-Exec-clause-serves
returns-in-Exec-clause-serves g c =
    subst (λ (x : Command). IfOk c.exec.result (λ reply. Serves g.P.Pace.went c.args.objects.now c.args.sites.now c.args.log.now.lines x reply c.exec.new.objects c.exec.new.sites c.exec.new.log.lines)) (sym c.in-Exec.is) c.exec.ensures.serves

pub returns-in-Exec-clause-wants : goal.returns-in-Exec-clause-wants
returns-in-Exec-clause-wants g c =
    subst (λ (x : Command). OnErr c.exec.result (MovesInWant g.P.Pace.went c.args.objects.now (uses_if (is_accepted (plain_with c.args.objects.now c.args.sites.now) x) x) c.exec.new.objects)) (sym c.in-Exec.is) c.exec.ensures.moves

pub returns-in-Exec-clause-noted : goal.returns-in-Exec-clause-noted
returns-in-Exec-clause-noted g c =
    subst (λ (x : Command). OnErr c.exec.result (NotedInWant g.P.Pace.went c.args.objects.now c.args.sites.now c.args.log.now.lines x c.exec.new.sites c.exec.new.log.lines)) (sym c.in-Exec.is) c.exec.ensures.noted

pub serve_objects-requires-clause-objects : goal.serve_objects-requires-clause-objects
serve_objects-requires-clause-objects g c = of_objects c.args.command.now c.in_default.not-Declare c.in_default.not-Exec c.requires.beside

pub returns-in_default-clause-wants : goal.returns-in_default-clause-wants
returns-in_default-clause-wants g c =
    result_left g.P.Pace.went c.args.objects.now c.serve_objects.new.objects c.args.sites.now c.args.command.now c.serve_objects.result (of_objects c.args.command.now c.in_default.not-Declare c.in_default.not-Exec c.requires.beside) c.serve_objects.ensures.wants

pub returns-in_default-clause-noted : goal.returns-in_default-clause-noted
returns-in_default-clause-noted g c =
    result_same g.P.Pace.went c.args.objects.now c.args.sites.now c.serve_objects.new.sites c.args.log.now.lines c.serve_objects.new.log.lines c.args.command.now c.serve_objects.result c.serve_objects.ensures.same c.serve_objects.ensures.quiet
