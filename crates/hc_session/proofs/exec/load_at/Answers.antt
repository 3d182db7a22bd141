use Rattle.std.proofs.Common.{None, [], ◌∷◌, refl, ap, ◌∙◌}
use Rattle.hc_ops.specs.Get.{get_reply}
use Rattle.hc_objects.specs.Came.{world_of}
use Rattle.hc_plan.specs.declared.case.Op.TheVariants.{Load}
use Rattle.hc_session.specs.Tables.{says}
use Rattle.hc_session.proofs.Accessed.{on-err}
use Rattle.hc_session.proofs.Passed.{found-load, missed-site, missed-world, passed-accessed}
use Rattle.hc_session.proofs.Uses.{moves-first}
use Rattle.hc_session.proofs.exec.load_at.Goals as goal

pub returns-in_err-reply-clause-moves : goal.returns-in_err-reply-clause-moves
returns-in_err-reply-clause-moves g c = on-err c.from_residual.result (moves-first g.P.Pace.went c.args.objects.now c.ask_plan.new.objects (c.args.o ∷ []) c.in_err-reply.ensures.moves)

pub returns-in-Some-clause-accessed : goal.returns-in-Some-clause-accessed
returns-in-Some-clause-accessed g c =
    found-load g.P.Pace.went c.args.objects.now c.ask_plan.new.objects c.args.sites.now c.ask_plan.new.sites c.args.log.now.lines c.ask_plan.new.log.lines c.args.s c.args.o c.args.name c.in-Some.reply c.in_ok-reply.field-0 c.in-Some.is c.requires.site c.in_ok-reply.ensures.answered c.in_ok-reply.ensures.quick_hit

pub load_past-requires-clause-site : goal.load_past-requires-clause-site
load_past-requires-clause-site g c =
    missed-site g.P.Pace.went c.args.objects.now c.ask_plan.new.objects c.args.sites.now c.ask_plan.new.sites c.args.log.now.lines c.ask_plan.new.log.lines c.args.s c.args.o None (c.in_ok-reply.ensures.missed c.in_default.is) ∙ c.requires.site

pub returns-clause-accessed : goal.returns-clause-accessed
returns-clause-accessed g c =
    let a = c.args.objects.now in
    let ready = c.ask_plan.new.objects in
    let miss = c.in_ok-reply.ensures.missed c.in_default.is in
    passed-accessed g.P.Pace.went a ready c.load_past.new.objects c.args.sites.now c.ask_plan.new.sites c.load_past.new.sites c.args.log.now.lines c.ask_plan.new.log.lines c.load_past.new.log.lines c.args.s c.args.o (record { op = Load; name = c.args.name }) None
    (says (get_reply (world_of a) c.args.o c.args.name)) c.load_past.result miss c.in_ok-reply.ensures.quick (λ none. refl) (says (get_reply (world_of ready) c.args.o c.args.name))
    (ap (λ w. says (get_reply w c.args.o c.args.name)) (missed-world g.P.Pace.went a ready c.args.sites.now c.ask_plan.new.sites c.args.log.now.lines c.ask_plan.new.log.lines c.args.s c.args.o None miss)) c.load_past.ensures.passed
