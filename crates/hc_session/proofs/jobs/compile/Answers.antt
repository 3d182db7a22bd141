use Rattle.std.proofs.Common.{◌<◌, ◌≤◌, length, arith}
use Rattle.hc_session.proofs.Entered.{compile-full, compile-nowhere, compiled}
use Rattle.hc_session.proofs.Rested.{started-opened-at, started-planned-at}
use Rattle.hc_session.proofs.jobs.compile.Goals as goal

pub returns-then-s-len-clause-serves : goal.returns-then-s-len-clause-serves
returns-then-s-len-clause-serves g c log =
    let le : length c.args.sites.now ≤ c.args.s = omega (arith, c.if-s-len.true, c.len.ensures) in
    compile-nowhere c.args.objects.now c.args.sites.now c.args.compiler.now log c.args.s le

pub returns-then-not-may_open-clause-serves : goal.returns-then-not-may_open-clause-serves
returns-then-not-may_open-clause-serves g c log =
    let lt : c.args.s < length c.args.sites.now = omega (arith, c.if-s-len.false, c.len.ensures) in
    compile-full c.args.objects.now c.args.sites.now c.args.compiler.now log c.args.s lt
    (λ room. let f : ⊥ = cc (c.may_open.ensures.room.1 room, c.if-not-may_open.true) in absurd f)

pub returns-in_err-number-clause-reading : goal.returns-in_err-number-clause-reading
returns-in_err-number-clause-reading g c = c.start.ensures.reading c.requires.reading

pub returns-clause-serves : goal.returns-clause-serves
returns-clause-serves g c log =
    let lt : c.args.s < length c.args.sites.now = omega (arith, c.if-s-len.false, c.len.ensures) in
    compiled c.args.objects.now c.args.sites.now c.args.compiler.now log c.args.s c.in_ok-number.number c.start.new.objects c.start.new.self lt (c.may_open.ensures.room.0 c.if-not-may_open.false)
    c.in_ok-number.ensures.number c.in_ok-number.ensures.started c.in_ok-number.ensures.starts c.start.ensures.lent c.start.ensures.same

pub returns-clause-reading : goal.returns-clause-reading
returns-clause-reading g c = c.start.ensures.reading c.requires.reading

pub returns-clause-planned : goal.returns-clause-planned
returns-clause-planned g c =
    let lt : c.args.s < length c.args.sites.now = omega (arith, c.if-s-len.false, c.len.ensures) in
    started-planned-at c.args.objects.now c.start.new.objects c.args.sites.now c.args.compiler.now.jobs c.start.new.self.jobs c.args.compiler.now.started c.args.s lt c.in_ok-number.ensures.starts c.start.ensures.same c.requires.planned

pub returns-clause-opened : goal.returns-clause-opened
returns-clause-opened g c =
    let lt : c.args.s < length c.args.sites.now = omega (arith, c.if-s-len.false, c.len.ensures) in
    started-opened-at c.args.objects.now c.args.sites.now c.args.compiler.now.jobs c.start.new.self.jobs c.args.compiler.now.started c.args.s lt c.in_ok-number.ensures.starts c.requires.opened
