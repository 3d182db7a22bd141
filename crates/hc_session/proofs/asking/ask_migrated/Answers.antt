use Rattle.std.proofs.Common.{Some, None}
use Rattle.std.specs.Prelude.{◌≡◌, ◌↔◌, IsSome}
use Rattle.hc_plan.specs.declared.case.Op.TheVariants.{Store}
use Rattle.hc_plan.specs.declared.case.Site.{Site}
use Rattle.hc_table.specs.Numbers.{IsNameNumber}
use Rattle.hc_session.proofs.Asked.{answered-by, missed-after, ready-if}
use Rattle.hc_session.proofs.asking.ask_migrated.Goals as goal

pub ask_once-requires-clause-given : goal.ask_once-requires-clause-given
ask_once-requires-clause-given g c =
    ready-if g.P.Pace.went (λ (x : Site). IsSome c.args.value.now ↔ (x.op ≡ Store)) c.args.objects.now c.ready_receiver.new.objects c.args.sites.now c.ready_receiver.new.sites c.args.log.now.lines c.ready_receiver.new.log.lines c.args.o c.args.s c.in_ok-ready_receiver.ensures.ready c.requires.given

pub ask_once-requires-clause-name : goal.ask_once-requires-clause-name
ask_once-requires-clause-name g c =
    ready-if g.P.Pace.went (λ (x : Site). IsNameNumber x.name) c.args.objects.now c.ready_receiver.new.objects c.args.sites.now c.ready_receiver.new.sites c.args.log.now.lines c.ready_receiver.new.log.lines c.args.o c.args.s c.in_ok-ready_receiver.ensures.ready c.requires.name

pub returns-clause-answered : goal.returns-clause-answered
returns-clause-answered g c =
    answered-by g.P.Pace.went c.args.objects.now c.ready_receiver.new.objects c.ask_once.new.objects c.args.sites.now c.ready_receiver.new.sites c.args.log.now.lines c.ready_receiver.new.log.lines c.ask_once.new.log.lines c.args.s c.args.o c.args.value.now c.ask_once.result
    (λ some. c.in_ok-ready_receiver.ensures.ready) c.in_ok-ready_receiver.ensures.agree.installed c.ask_once.ensures.goes c.ask_once.ensures.hit

pub returns-clause-missed : goal.returns-clause-missed
returns-clause-missed g c = λ none.
    missed-after g.P.Pace.went c.args.objects.now c.ready_receiver.new.objects c.ask_once.new.objects c.args.sites.now c.ready_receiver.new.sites c.args.log.now.lines c.ready_receiver.new.log.lines c.ask_once.new.log.lines c.args.s c.args.o c.args.value.now
    c.in_ok-ready_receiver.ensures.ready c.in_ok-ready_receiver.ensures.live (c.ask_once.ensures.still none) (c.ask_once.ensures.quiet none) (c.ask_once.ensures.miss none) (c.ask_once.ensures.agree none)
