use Rattle.std.proofs.Common.{sym, subst}
use Rattle.std.specs.Prelude.{OnOk}
use Rattle.std.proofs.lemmas.Result.{on_ok_weaker}
use Rattle.hc_modes.specs.Came.{world_of}
use Rattle.hc_objects.specs.Changes.{IsReadyFor, ReadiedFor}
use Rattle.hc_objects.specs.declared.change.Change.{Change}
use Rattle.hc_objects.proofs.MadeReady.{followed-fits, followed-fits-for}
use Rattle.hc_objects.proofs.objects.Objects.ready_for.Goals as goal

pub returns-in-Write-clause-readied : goal.returns-in-Write-clause-readied
returns-in-Write-clause-readied g c = subst (λ (k : Change). OnOk c.ready.result (ReadiedFor g.P.Pace.went c.args.self.now c.args.o k c.ready.new.self)) (sym c.in-Write.is) c.ready.ensures.readied

pub returns-in-Write-clause-ready : goal.returns-in-Write-clause-ready
returns-in-Write-clause-ready g c =
    subst (λ (k : Change). OnOk c.ready.result (IsReadyFor (world_of c.ready.new.self) c.ready.new.self.heap.view c.args.o k)) (sym c.in-Write.is)
    (on_ok_weaker c.ready.result (λ f. followed-fits g.P.Pace.went c.args.self.now c.ready.new.self c.args.o c.in-Write.i c.in-Write.held f) c.ready.ensures.readied)

pub returns-in-Put-clause-readied : goal.returns-in-Put-clause-readied
returns-in-Put-clause-readied g c = subst (λ (k : Change). OnOk c.ready-in-Put.result (ReadiedFor g.P.Pace.went c.args.self.now c.args.o k c.ready-in-Put.new.self)) (sym c.in-Put.is) c.ready-in-Put.ensures.readied

pub returns-in-Put-clause-ready : goal.returns-in-Put-clause-ready
returns-in-Put-clause-ready g c =
    subst (λ (k : Change). OnOk c.ready-in-Put.result (IsReadyFor (world_of c.ready-in-Put.new.self) c.ready-in-Put.new.self.heap.view c.args.o k)) (sym c.in-Put.is)
    (on_ok_weaker c.ready-in-Put.result (λ f other. followed-fits-for g.P.Pace.went c.args.self.now c.ready-in-Put.new.self c.args.o c.in-Put.i c.in-Put.p f other) c.ready-in-Put.ensures.readied)
