use Rattle.std.proofs.Common.{subst}
use Rattle.std.specs.Prelude.{Option}
use Rattle.hc_tree.specs.Needs.{HasSpace}
use Rattle.hc_table.specs.World.{object}
use Rattle.hc_modes.specs.Came.{world_of}
use Rattle.hc_modes.specs.Inheriting.{IsFull, IsSpareFor}
use Rattle.hc_slots.specs.Meaning.{Dictionary}
use Rattle.hc_modes.specs.Modes.{link_need}
use Rattle.hc_modes.proofs.Inherited.{left-linked}
use Rattle.hc_modes.proofs.objects.Objects.link_with.Goals as goal

pub returns-in-Some : goal.returns-in-Some
returns-in-Some g c =
    let a = c.args.self.now in
    let d = c.in-Some.slow in
    let full : IsFull (HasSpace a.heap.view (link_need a.heap.view.trail c.args.o c.args.proto a.of_null)) (object (world_of a) c.args.o) d =
    subst (λ (x : Option Dictionary). IsSpareFor (HasSpace a.heap.view (link_need a.heap.view.trail c.args.o c.args.proto a.of_null)) (object (world_of a) c.args.o) x) c.in-Some.is c.requires.spare in
    let left = c.leave_with.ensures in
    let link = c.change_slow.ensures in
    record {
      linked = left-linked g.P.Pace.went g.met.P.Pace.goes_on c.constants_stay_on.ensures.law a c.leave_with.new.self c.change_slow.new.self c.args.o c.args.proto d c.requires.fast full.full full.cause
          left.moved left.cause left.others left.used left.roots left.marks left.gone left.details link.steps link.heap link.others link.cause;
    }
