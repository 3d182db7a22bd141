use Rattle.std.proofs.Common.{None, Some, [], ◌∷◌, refl, sym, ap, ◌∙◌, Option, subst}
use Rattle.std.specs.Prelude.{IfSome, IsSome, ◌≡◌, ◌↔◌}
use Rattle.hc_plan.specs.declared.case.Op.TheVariants.{Store}
use Rattle.hc_session.proofs.Accessed.{on-err}
use Rattle.hc_session.proofs.Passed.{found-store, missed-site, stored-accessed, stored-noted, stored-wants}
use Rattle.hc_session.proofs.Uses.{moves-first}
use Rattle.hc_session.proofs.exec.store_at.Goals as goal

pub returns-in_err-reply-clause-moves : goal.returns-in_err-reply-clause-moves
returns-in_err-reply-clause-moves g c = on-err c.from_residual.result (moves-first g.P.Pace.went c.args.objects.now c.ask_plan.new.objects (c.args.o ∷ []) c.in_err-reply.ensures.moves)

pub returns-in-Some-clause-accessed : goal.returns-in-Some-clause-accessed
returns-in-Some-clause-accessed g c =
    found-store g.P.Pace.went c.args.objects.now c.ask_plan.new.objects c.args.sites.now c.ask_plan.new.sites c.args.log.now.lines c.ask_plan.new.log.lines c.args.s c.args.o c.args.name c.in-Some.reply c.args.given.now c.args.value c.in_ok-reply.field-0 c.requires.given c.in-Some.is c.requires.site c.in_ok-reply.ensures.answered

pub store_past-requires-clause-site : goal.store_past-requires-clause-site
store_past-requires-clause-site g c =
    missed-site g.P.Pace.went c.args.objects.now c.ask_plan.new.objects c.args.sites.now c.ask_plan.new.sites c.args.log.now.lines c.ask_plan.new.log.lines c.args.s c.args.o c.args.given.now (c.in_ok-reply.ensures.missed c.in_default.is) ∙ c.requires.site

pub returns-clause-accessed : goal.returns-clause-accessed
returns-clause-accessed g c =
    stored-accessed g.P.Pace.went c.args.objects.now c.ask_plan.new.objects c.store_past.new.objects c.args.sites.now c.ask_plan.new.sites c.store_past.new.sites c.args.log.now.lines c.ask_plan.new.log.lines c.store_past.new.log.lines c.args.s c.args.o c.args.name c.args.value c.args.given.now c.requires.given (c.in_ok-reply.ensures.missed c.in_default.is)
    c.store_past.result c.store_past.ensures.passed

pub returns-clause-moves : goal.returns-clause-moves
returns-clause-moves g c =
    stored-wants g.P.Pace.went c.args.objects.now c.ask_plan.new.objects c.store_past.new.objects c.args.sites.now c.ask_plan.new.sites c.store_past.new.sites c.args.log.now.lines c.ask_plan.new.log.lines c.store_past.new.log.lines c.args.s c.args.o c.args.name c.args.value c.args.given.now c.requires.given (c.in_ok-reply.ensures.missed c.in_default.is)
    c.store_past.result c.store_past.ensures.moves

pub returns-clause-noted : goal.returns-clause-noted
returns-clause-noted g c =
    stored-noted g.P.Pace.went c.args.objects.now c.ask_plan.new.objects c.store_past.new.objects c.args.sites.now c.ask_plan.new.sites c.store_past.new.sites c.args.log.now.lines c.ask_plan.new.log.lines c.store_past.new.log.lines c.args.s c.args.o c.args.name c.args.value c.args.given.now c.requires.given (c.in_ok-reply.ensures.missed c.in_default.is)
    c.store_past.result c.requires.site c.requires.there c.requires.named c.store_past.ensures.noted c.store_past.ensures.quiet
