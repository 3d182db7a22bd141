use Rattle.std.proofs.Common.{ap}
use Rattle.std.proofs.lemmas.Result.{on_err_weaker}
use Rattle.hc_layout.specs.declared.shape.Shape.{Shape}
use Rattle.hc_table.specs.Changes.{Moved, Added}
use Rattle.hc_objects.specs.Laws.{came-shape, came-world}
use Rattle.hc_objects.proofs.Applied.{either}
use Rattle.hc_objects.proofs.tables.ObjectsTables.add.Goals as goal

pub returns-clause-err : goal.returns-clause-err
returns-clause-err g c = on_err_weaker c.apply.result (λ moves. came-world g.P.Pace.went c.args.self.now c.apply.new.self Moved moves) c.apply.ensures.moved

pub returns-clause-same_limit : goal.returns-clause-same_limit
returns-clause-same_limit g c = either c.apply.result _ _ _
    (λ came. ap (λ (s : Shape). s.objects) (came-shape g.P.Pace.went c.args.self.now c.apply.new.self (Added c.args.o c.args.p) came))
    (λ moves. ap (λ (s : Shape). s.objects) (came-shape g.P.Pace.went c.args.self.now c.apply.new.self Moved moves))
    c.apply.ensures.did c.apply.ensures.moved
