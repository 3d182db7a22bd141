use Rattle.std.proofs.Common.{ℕ, ◌<◌, ◌-◌, ◌^◌, Some, None, [], ◌∷◌, refl, sym, ◌∙◌, subst}
use Rattle.hc_layout.specs.declared.shape.Shape.{Shape}
use Rattle.hc_objects.specs.Came.{world_of}
use Rattle.hc_ops.specs.Set.{set_act}
use Rattle.hc_plan.specs.declared.case.Op.TheVariants.{Store}
use Rattle.hc_table.specs.Changes.{Nothing}
use Rattle.hc_commands.specs.declared.command.Command.TheVariants.{Exec}
use Rattle.hc_installed.specs.Installed.{AreInstalled}
use Rattle.hc_session.proofs.Accessed.{on-err}
use Rattle.hc_session.proofs.Answering.{accessed-serves, store-accepted, store-acts, wants-by}
use Rattle.hc_session.proofs.Ended.{end-good, end-installed, end-seen, serves-limit, since-quiet, want-limit}
use Rattle.hc_session.proofs.exec.store_whole.Goals as goal

pub discard_since-requires-clause-quiet : goal.discard_since-requires-clause-quiet
discard_since-requires-clause-quiet g c = λ same lt.
    let a = c.args.objects.now in
    let b = c.store_at.new.objects in
    let done = c.in_ok-reply.ensures.accessed in
    let installed = subst (λ (q : Shape). AreInstalled q done.ready.heap.view.trail c.store_at.new.sites) (sym done.goes.shape) done.installed in
    c.quiet_breaks_no_plan.ensures.law done.ready.heap.view.trail b.heap.view b.heap.desk c.store_at.new.sites c.stands-2.ensures.sound.heap c.stands-2.ensures.desk done.goes.goes
    (since-quiet c.stores_are_writes.ensures.law a done.ready b c.stands.ensures.desk c.stands-2.ensures.desk (c.operations_go_on.ensures.live a done.ready c.args.o c.stands.ensures.sound.heap.lawful done.is_ready.made) done.goes
    (sym c.writes-before.ensures.count ∙ same) (subst (λ (n : ℕ). n < 2 ^ 64 - 1) c.writes-before.ensures.count lt)) installed

pub returns-clause-serves : goal.returns-clause-serves
returns-clause-serves g c =
    let a = c.args.objects.now in
    accessed-serves g.P.Pace.went a c.args.sites.now c.args.s c.args.o (Some c.args.value) c.store_at.new.objects c.discard_since.new.objects c.store_at.new.sites c.discard_since.new.sites c.args.log.now.lines c.store_at.new.log.lines c.discard_since.new.log.lines (record { op = Store; name = c.args.name })
    (set_act (world_of a) c.args.o c.args.name c.args.value) c.in_ok-reply.reply c.requires.site (store-acts a c.args.o c.args.name c.args.value c.requires.there c.requires.named) (store-accepted a c.args.o c.args.name c.args.value c.requires.there c.requires.named)
    c.in_ok-reply.ensures.accessed c.discard_since.ensures.still (λ none. let f : ⊥ = cc in absurd f) c.discard_since.ensures.sites c.discard_since.ensures.lines

pub returns-clause-installed : goal.returns-clause-installed
returns-clause-installed g c =
    let b = c.store_at.new.objects in
    let done = c.in_ok-reply.ensures.accessed in
    let installed = subst (λ (q : Shape). AreInstalled q done.ready.heap.view.trail c.store_at.new.sites) (sym done.goes.shape) done.installed in
    end-installed b c.discard_since.new.objects c.store_at.new.sites c.discard_since.new.sites c.discard_since.ensures.still c.discard_since.ensures.sites
    (c.plans_stay_installed.ensures.law done.ready.heap.view.trail b.heap.view b.heap.desk b.kept c.store_at.new.sites (c.objects_rest.ensures.law b.heap.view b.kept b.of_null c.stands-2.ensures.sound c.in_ok-reply.ensures.calm) c.stands-2.ensures.desk done.goes.goes done.goes.constants installed)

pub returns-clause-limit : goal.returns-clause-limit
returns-clause-limit g c =
    serves-limit g.P.Pace.went c.args.objects.now c.discard_since.new.objects c.args.sites.now c.discard_since.new.sites c.args.log.now.lines c.discard_since.new.log.lines (Exec c.args.s c.args.o (Some c.args.value)) c.in_ok-reply.reply (returns-clause-serves g c)

pub returns-clause-good : goal.returns-clause-good
returns-clause-good g c =
    end-good c.store_at.new.objects c.discard_since.new.objects c.store_at.new.sites c.discard_since.new.sites c.discard_since.ensures.sites
    (c.entries_stay_good.ensures.law c.store_at.new.objects c.discard_since.new.objects Nothing c.store_at.new.sites c.stands-2.ensures.sound c.stands-3.ensures.sound c.stands-2.ensures.cells c.discard_since.ensures.still c.store_at.ensures.good)

pub returns-clause-seen : goal.returns-clause-seen
returns-clause-seen g c = end-seen c.store_at.new.objects c.discard_since.new.objects c.store_at.new.sites c.discard_since.new.sites c.discard_since.ensures.still c.discard_since.ensures.sites c.store_at.ensures.seen

pub returns-in_err-reply-clause-moves : goal.returns-in_err-reply-clause-moves
returns-in_err-reply-clause-moves g c =
    on-err c.from_residual.result (wants-by g.P.Pace.went c.args.objects.now c.args.sites.now c.args.s c.args.o (Some c.args.value) (record { op = Store; name = c.args.name }) c.store_at.new.objects c.requires.site (store-accepted c.args.objects.now c.args.o c.args.name c.args.value c.requires.there c.requires.named) c.in_err-reply.ensures.moves)

pub returns-in_err-reply-clause-limit : goal.returns-in_err-reply-clause-limit
returns-in_err-reply-clause-limit g c = want-limit g.P.Pace.went c.args.objects.now c.store_at.new.objects (c.args.o ∷ []) c.in_err-reply.ensures.moves
