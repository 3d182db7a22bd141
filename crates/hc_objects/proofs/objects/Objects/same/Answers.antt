use Rattle.std.proofs.Common.{◌<◌, length, sym, subst}
use Rattle.hc_table.specs.Changes.{Moved}
use Rattle.hc_table.specs.World.{World}
use Rattle.hc_modes.specs.State.{ObjectsState}
use Rattle.hc_objects.specs.Came.{IsStill, world_of}
use Rattle.hc_objects.specs.Laws.{came-after, came-world, live-after}
use Rattle.hc_objects.proofs.Made.{on-ok}
use Rattle.hc_objects.proofs.objects.Objects.same.Goals as goal

pub same-requires-clause-a : goal.same-requires-clause-a
same-requires-clause-a g c =
    let a = c.args.self.now in
    let s = c.migrate_both.new.self in
    subst (λ (t : ObjectsState g.row.P.Denot). c.args.a < length (world_of t)) (sym c.self.view_is)
    (subst (λ (w : World). c.args.a < length w) (sym (came-world g.P.Pace.went a s Moved c.migrate_both.ensures.moved)) c.requires.a)

pub same-requires-clause-b : goal.same-requires-clause-b
same-requires-clause-b g c =
    let a = c.args.self.now in
    let s = c.migrate_both.new.self in
    subst (λ (t : ObjectsState g.row.P.Denot). c.args.b < length (world_of t)) (sym c.self.view_is)
    (subst (λ (w : World). c.args.b < length w) (sym (came-world g.P.Pace.went a s Moved c.migrate_both.ensures.moved)) c.requires.b)

pub returns-clause-made : goal.returns-clause-made
returns-clause-made g c =
    let still = subst (λ (s : ObjectsState g.row.P.Denot). IsStill s c.same.new.self) c.self.view_is c.same.ensures.still in
    let it = c.in_ok-migrate_both.ensures.made in
    on-ok c.same.result _ (it.0, it.1, it.2, it.3, live-after g.P.Pace.went it.1 c.migrate_both.new.self c.same.new.self c.args.a it.4 still)

pub returns-clause-moved : goal.returns-clause-moved
returns-clause-moved g c =
    let still = subst (λ (s : ObjectsState g.row.P.Denot). IsStill s c.same.new.self) c.self.view_is c.same.ensures.still in
    came-after g.P.Pace.went c.args.self.now c.migrate_both.new.self c.same.new.self Moved c.migrate_both.ensures.moved still
