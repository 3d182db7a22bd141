use Rattle.std.proofs.Common.{◌∙◌, ap, sym, subst}
use Rattle.std.proofs.lemmas.Result.{on_err_weaker}
use Rattle.hc_layout.specs.declared.words.RootWord.{RootWord}
use Rattle.hc_heap.specs.Readings.{root_in}
use Rattle.hc_heap.specs.States.{HeapState}
use Rattle.hc_modes.specs.State.{ObjectsState}
use Rattle.hc_modes.specs.Came.{Moves}
use Rattle.hc_modes.specs.Details.{DetailsAre, GetsNothing}
use Rattle.hc_modes.proofs.Adds.{left-lawful}
use Rattle.hc_modes.proofs.Composing.{but-on, left-moves}
use Rattle.hc_modes.proofs.objects.Objects.leave_and_add.Goals as goal

pub returns-clause-others : goal.returns-clause-others
returns-clause-others g c = but-on c.args.o _ _ _ c.leave.ensures.others c.add_slow.ensures.others

pub returns-clause-protos : goal.returns-clause-protos
returns-clause-protos g c = λ q. ap (λ (h : HeapState g.row.P.Denot). (root_in h.view.trail q).is_proto) c.add_slow.ensures.heap ∙ ap (λ (r : RootWord). r.is_proto) (c.leave.ensures.roots q)

pub returns-clause-moved : goal.returns-clause-moved
returns-clause-moved g c = on_err_weaker c.add_slow.result
    (λ same. subst (λ (s : ObjectsState g.row.P.Denot). Moves g.P.Pace.went c.args.self.now s) (sym same)
    (left-moves g.P.Pace.went c.args.self.now c.leave.new.self c.args.o c.args.cause
    (left-lawful g.P.Pace.went c.args.self.now c.leave.new.self c.args.o c.args.cause c.in_ok-leave.ensures.moved c.requires.fast c.requires.why c.in_ok-leave.ensures.cause c.leave.ensures.others c.leave.ensures.used
    (λ q. ap (λ (r : RootWord). r.is_proto) (c.leave.ensures.roots q)) c.in_ok-leave.ensures.marks c.leave.ensures.details c.stands.ensures.sound)))
    c.add_slow.ensures.err

pub returns-clause-details : goal.returns-clause-details
returns-clause-details g c = subst (λ (h : HeapState g.row.P.Denot). DetailsAre GetsNothing c.args.self.now.heap.view.trail h.view.trail) (sym c.add_slow.ensures.heap) c.leave.ensures.details
