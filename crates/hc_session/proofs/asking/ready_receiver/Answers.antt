use Rattle.std.proofs.Common.{sym, ◌∙◌, subst, List}
use Rattle.hc_board.specs.States.{words_of}
use Rattle.hc_layout.specs.declared.shape.Shape.{Shape}
use Rattle.hc_sites.specs.declared.state.SiteState.{SiteState}
use Rattle.hc_table.specs.Changes.{Nothing}
use Rattle.hc_installed.specs.Installed.{AreInstalled}
use Rattle.hc_session.proofs.Asked.{agree-left, ready-moved}
use Rattle.hc_session.proofs.asking.ready_receiver.Goals as goal

pub returns-clause-ready : goal.returns-clause-ready
returns-clause-ready g c =
    ready-moved g.P.Pace.went c.args.objects.now c.migrate_receiver.new.objects c.discard_broken.new.objects c.args.sites.now c.discard_broken.new.sites c.args.log.now.lines c.discard_broken.new.log.lines c.args.o c.writes-at.result c.args.shape
    c.in_ok-migrate_receiver.ensures.made c.discard_broken.ensures.still (c.requires.shape ∙ sym c.migrate_receiver.ensures.goes.shape) c.writes-at.ensures.count c.discard_broken.ensures.sites c.discard_broken.ensures.lines

pub returns-clause-agree : goal.returns-clause-agree
returns-clause-agree g c =
    agree-left c.migrate_receiver.new.objects c.discard_broken.new.objects c.args.sites.now c.discard_broken.new.sites c.args.shape
    c.discard_broken.ensures.still (c.requires.shape ∙ sym c.migrate_receiver.ensures.goes.shape) c.discard_broken.ensures.sites
    (c.entries_stay_good.ensures.law c.migrate_receiver.new.objects c.discard_broken.new.objects Nothing c.args.sites.now c.stands.ensures.sound c.stands-2.ensures.sound c.stands.ensures.cells c.discard_broken.ensures.still c.migrate_receiver.ensures.good)
    c.migrate_receiver.ensures.seen c.migrate_receiver.ensures.calm c.migrate_receiver.ensures.honest
    (c.plans_stay_installed.ensures.law c.args.objects.now.heap.view.trail c.migrate_receiver.new.objects.heap.view c.migrate_receiver.new.objects.heap.desk c.migrate_receiver.new.objects.kept c.args.sites.now
    (c.objects_rest.ensures.law c.migrate_receiver.new.objects.heap.view c.migrate_receiver.new.objects.kept c.migrate_receiver.new.objects.of_null c.stands.ensures.sound c.migrate_receiver.ensures.calm) c.stands.ensures.desk
    c.migrate_receiver.ensures.goes.goes c.migrate_receiver.ensures.goes.constants
    (subst (λ (q : Shape). AreInstalled q c.args.objects.now.heap.view.trail c.args.sites.now) (sym c.migrate_receiver.ensures.goes.shape) c.requires.agree.installed))

pub returns-clause-good : goal.returns-clause-good
returns-clause-good g c = (returns-clause-agree g c).good

pub returns-clause-seen : goal.returns-clause-seen
returns-clause-seen g c = (returns-clause-agree g c).seen
