use Rattle.std.proofs.Common.{ℕ, None, List, [], ◌∷◌, ◌++◌, length, refl, sym, ap, ◌∙◌, subst, append-nil}
use Rattle.hc_board.specs.States.{counted}
use Rattle.hc_layout.specs.declared.shape.Shape.{Shape}
use Rattle.hc_modes.specs.Laws.{still-refl}
use Rattle.hc_objects.specs.Came.{world_of}
use Rattle.hc_ops.specs.Get.{get_reply}
use Rattle.hc_plan.specs.declared.case.Op.TheVariants.{Load}
use Rattle.hc_commands.specs.declared.command.Command.TheVariants.{Exec}
use Rattle.hc_installed.specs.Installed.{AreInstalled}
use Rattle.hc_report.specs.declared.line.Line.{Line}
use Rattle.hc_session.specs.Tables.{says}
use Rattle.hc_session.proofs.Accessed.{on-err}
use Rattle.hc_session.proofs.Answering.{accessed-serves, load-accepted, load-acts, wants-by}
use Rattle.hc_session.proofs.Ended.{end-installed, load-quiet, serves-limit, want-limit}
use Rattle.hc_session.proofs.exec.load_whole.Goals as goal

pub returns-clause-serves : goal.returns-clause-serves
returns-clause-serves g c =
    let a = c.args.objects.now in
    let b = c.load_at.new.objects in
    let done = c.in_ok-reply.ensures.accessed in
    let installed = subst (λ (q : Shape). AreInstalled q done.ready.heap.view.trail c.load_at.new.sites) (sym done.goes.shape) done.installed in
    let unbroken = c.quiet_breaks_no_plan.ensures.law done.ready.heap.view.trail b.heap.view b.heap.desk c.load_at.new.sites c.stands.ensures.sound.heap c.stands.ensures.desk done.goes.goes (load-quiet g.P.Pace.went done.ready b c.args.s c.args.o done.became) installed in
    accessed-serves g.P.Pace.went a c.args.sites.now c.args.s c.args.o None b b c.load_at.new.sites c.load_at.new.sites c.args.log.now.lines c.load_at.new.log.lines c.load_at.new.log.lines (record { op = Load; name = c.args.name }) (says (get_reply (world_of a) c.args.o c.args.name)) c.in_ok-reply.reply
    c.requires.site (load-acts a c.args.o c.args.name c.requires.there) (load-accepted a c.args.o c.args.name c.requires.there) done (still-refl b) (λ none. refl) (sym unbroken.left)
    (sym (ap (λ (xs : List (ℕ × Line)). c.load_at.new.log.lines ++ xs) (unbroken.none (counted (length b.heap.desk.trail))) ∙ append-nil c.load_at.new.log.lines))

pub returns-clause-installed : goal.returns-clause-installed
returns-clause-installed g c =
    let b = c.load_at.new.objects in
    let done = c.in_ok-reply.ensures.accessed in
    let installed = subst (λ (q : Shape). AreInstalled q done.ready.heap.view.trail c.load_at.new.sites) (sym done.goes.shape) done.installed in
    let unbroken = c.quiet_breaks_no_plan.ensures.law done.ready.heap.view.trail b.heap.view b.heap.desk c.load_at.new.sites c.stands.ensures.sound.heap c.stands.ensures.desk done.goes.goes (load-quiet g.P.Pace.went done.ready b c.args.s c.args.o done.became) installed in
    end-installed b b c.load_at.new.sites c.load_at.new.sites (still-refl b) (sym unbroken.left)
    (c.plans_stay_installed.ensures.law done.ready.heap.view.trail b.heap.view b.heap.desk b.kept c.load_at.new.sites (c.objects_rest.ensures.law b.heap.view b.kept b.of_null c.stands.ensures.sound c.in_ok-reply.ensures.calm) c.stands.ensures.desk done.goes.goes done.goes.constants installed)

pub returns-clause-limit : goal.returns-clause-limit
returns-clause-limit g c =
    serves-limit g.P.Pace.went c.args.objects.now c.load_at.new.objects c.args.sites.now c.load_at.new.sites c.args.log.now.lines c.load_at.new.log.lines (Exec c.args.s c.args.o None) c.in_ok-reply.reply (returns-clause-serves g c)

pub returns-in_err-reply-clause-moves : goal.returns-in_err-reply-clause-moves
returns-in_err-reply-clause-moves g c =
    on-err c.from_residual.result (wants-by g.P.Pace.went c.args.objects.now c.args.sites.now c.args.s c.args.o None (record { op = Load; name = c.args.name }) c.load_at.new.objects c.requires.site (load-accepted c.args.objects.now c.args.o c.args.name c.requires.there) c.in_err-reply.ensures.moves)

pub returns-in_err-reply-clause-limit : goal.returns-in_err-reply-clause-limit
returns-in_err-reply-clause-limit g c = want-limit g.P.Pace.went c.args.objects.now c.load_at.new.objects (c.args.o ∷ []) c.in_err-reply.ensures.moves
