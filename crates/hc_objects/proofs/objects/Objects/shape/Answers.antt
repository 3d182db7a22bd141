use Rattle.std.proofs.Common.{subst}
use Rattle.hc_modes.specs.State.{ObjectsState}
use Rattle.hc_objects.specs.Came.{IsStill}
use Rattle.hc_objects.specs.Laws.{live-after, live-moves}
use Rattle.hc_objects.proofs.Made.{on-err, on-ok}
use Rattle.hc_objects.proofs.objects.Objects.shape.Goals as goal

pub returns-clause-made : goal.returns-clause-made
returns-clause-made g c =
    let still = subst (λ (s : ObjectsState g.row.P.Denot). IsStill s c.shape.new.self) c.self.view_is c.shape.ensures.still in
    on-ok c.shape.result _ (live-after g.P.Pace.went c.args.self.now c.migrate.new.self c.shape.new.self c.args.o c.in_ok-migrate.ensures.made still)

pub returns-clause-moved : goal.returns-clause-moved
returns-clause-moved g c =
    let still = subst (λ (s : ObjectsState g.row.P.Denot). IsStill s c.shape.new.self) c.self.view_is c.shape.ensures.still in
    on-err c.shape.result _ (live-moves g.P.Pace.went c.args.self.now c.shape.new.self c.args.o (live-after g.P.Pace.went c.args.self.now c.migrate.new.self c.shape.new.self c.args.o c.in_ok-migrate.ensures.made still))
