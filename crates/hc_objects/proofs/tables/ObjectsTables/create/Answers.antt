use Rattle.std.proofs.Common.{ap}
use Rattle.hc_layout.specs.declared.shape.Shape.{Shape}
use Rattle.hc_table.specs.Changes.{Created, Moved}
use Rattle.hc_modes.specs.State.{ObjectsState}
use Rattle.hc_objects.specs.Came.{world_of}
use Rattle.hc_objects.specs.Laws.{came-shape, came-world}
use Rattle.hc_objects.proofs.Made.{create-either, create-err}
use Rattle.hc_objects.proofs.tables.ObjectsTables.create.Goals as goal

pub returns-clause-err : goal.returns-clause-err
returns-clause-err g c = create-err c.make.result _
    (λ full. ap (λ (s : ObjectsState g.row.P.Denot). world_of s) (c.make.ensures.still full).is)
    (λ memory. came-world g.P.Pace.went c.args.self.now c.make.new.self Moved (c.make.ensures.moved memory))

pub returns-clause-same_limit : goal.returns-clause-same_limit
returns-clause-same_limit g c = create-either c.make.result _ _
    (λ came. ap (λ (s : Shape). s.objects) (came-shape g.P.Pace.went c.args.self.now c.make.new.self (Created c.args.proto) came))
    (λ full. ap (λ (s : ObjectsState g.row.P.Denot). s.heap.view.shape.objects) (c.make.ensures.still full).is)
    (λ memory. ap (λ (s : Shape). s.objects) (came-shape g.P.Pace.went c.args.self.now c.make.new.self Moved (c.make.ensures.moved memory)))
    c.make.ensures.did
