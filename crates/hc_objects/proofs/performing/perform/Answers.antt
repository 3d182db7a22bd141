use Rattle.std.proofs.Common.{refl, sym, subst}
use Rattle.std.specs.Prelude.{OnOk}
use Rattle.std.proofs.lemmas.Result.{on_ok_weaker}
use Rattle.hc_table.specs.Changes.{Added, Locked, Reconfigured, Removed, Restricted, Wrote}
use Rattle.hc_modes.specs.Admitting.{added}
use Rattle.hc_modes.specs.Came.{Came}
use Rattle.hc_objects.specs.Changes.{did_of}
use Rattle.hc_objects.specs.declared.change.Change.{Change}
use Rattle.hc_objects.proofs.Moving.{effect-alone}
use Rattle.hc_objects.proofs.performing.perform.Goals as goal

pub returns-in-Add-clause-did : goal.returns-in-Add-clause-did
returns-in-Add-clause-did g c =
    let it = effect-alone g.P.Pace.went c.args.inside.now c.add_property.new.self (Added c.args.o c.in-Add.p) refl in
    subst (λ (k : Change). OnOk c.add_property.result (Came g.P.Pace.went c.args.inside.now (did_of c.args.o k) c.add_property.new.self)) (sym c.in-Add.is) (on_ok_weaker c.add_property.result it c.add_property.ensures.did)

pub returns-in-AddBy-clause-did : goal.returns-in-AddBy-clause-did
returns-in-AddBy-clause-did g c =
    let it = effect-alone g.P.Pace.went c.args.inside.now c.add_by.new.self (Added c.args.o (added c.in-AddBy.name c.in-AddBy.value)) refl in
    subst (λ (k : Change). Came g.P.Pace.went c.args.inside.now (did_of c.args.o k) c.add_by.new.self) (sym c.in-AddBy.is) (it c.add_by.ensures.did)

pub returns-in-Write-clause-did : goal.returns-in-Write-clause-did
returns-in-Write-clause-did g c =
    let it = effect-alone g.P.Pace.went c.args.inside.now c.write_property.new.self (Wrote c.args.o c.in-Write.i c.in-Write.held) refl in
    subst (λ (k : Change). Came g.P.Pace.went c.args.inside.now (did_of c.args.o k) c.write_property.new.self) (sym c.in-Write.is) (it c.write_property.ensures.did)

pub returns-in-Put-clause-did : goal.returns-in-Put-clause-did
returns-in-Put-clause-did g c =
    let it = effect-alone g.P.Pace.went c.args.inside.now c.reconfigure.new.self (Reconfigured c.args.o c.in-Put.i c.in-Put.p) refl in
    subst (λ (k : Change). OnOk c.reconfigure.result (Came g.P.Pace.went c.args.inside.now (did_of c.args.o k) c.reconfigure.new.self)) (sym c.in-Put.is) (on_ok_weaker c.reconfigure.result it c.reconfigure.ensures.did)

pub returns-in-Remove-clause-did : goal.returns-in-Remove-clause-did
returns-in-Remove-clause-did g c =
    let it = effect-alone g.P.Pace.went c.args.inside.now c.remove.new.self (Removed c.args.o c.in-Remove.i) refl in
    subst (λ (k : Change). OnOk c.remove.result (Came g.P.Pace.went c.args.inside.now (did_of c.args.o k) c.remove.new.self)) (sym c.in-Remove.is) (on_ok_weaker c.remove.result it c.remove.ensures.did)

pub returns-in-Lock-clause-did : goal.returns-in-Lock-clause-did
returns-in-Lock-clause-did g c =
    let it = effect-alone g.P.Pace.went c.args.inside.now c.lock.new.self (Locked c.args.o) refl in
    subst (λ (k : Change). OnOk c.lock.result (Came g.P.Pace.went c.args.inside.now (did_of c.args.o k) c.lock.new.self)) (sym c.in-Lock.is) (on_ok_weaker c.lock.result it c.lock.ensures.did)

pub returns-in-Restrict-clause-did : goal.returns-in-Restrict-clause-did
returns-in-Restrict-clause-did g c =
    let it = effect-alone g.P.Pace.went c.args.inside.now c.restrict.new.self (Restricted c.args.o c.in-Restrict.frozen) refl in
    subst (λ (k : Change). OnOk c.restrict.result (Came g.P.Pace.went c.args.inside.now (did_of c.args.o k) c.restrict.new.self)) (sym c.in-Restrict.is) (on_ok_weaker c.restrict.result it c.restrict.ensures.did)
