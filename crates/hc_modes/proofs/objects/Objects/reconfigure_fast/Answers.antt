use Rattle.std.proofs.Common.{◌∙◌, sym}
use Rattle.hc_modes.specs.Came.{world_of}
use Rattle.hc_modes.specs.Details.{ChangedGets, WroteGets}
use Rattle.hc_modes.proofs.Gets.{details-as}
use Rattle.hc_modes.proofs.Altering.{put-same}
use Rattle.hc_modes.proofs.objects.Objects.reconfigure_fast.Goals as goal

pub returns-clause-steps : goal.returns-clause-steps
returns-clause-steps g c =
    let wrote = c.write_fast.ensures.steps in
    record {
      world = wrote.world ∙ sym (put-same (world_of c.args.self.now) c.args.o c.args.i c.args.p c.requires.same);
      shape = wrote.shape;
      goes = wrote.goes;
      went = wrote.went;
      keeps = wrote.keeps;
    }

pub returns-clause-details : goal.returns-clause-details
returns-clause-details g c = λ other.
    let a = c.args.self.now in
    details-as (WroteGets a.heap.view.trail a.kept c.args.o c.args.i c.args.p.held) (ChangedGets a.heap.view.trail a.kept c.args.o c.args.i c.args.p)
    (λ f d got. got.wrote) (λ f d got. record { other = other; same = c.requires.same; wrote = got }) c.write_fast.ensures.details
