use Rattle.std.proofs.Common.{List, sym, subst}
use Rattle.hc_access.specs.Entries.{AreGood}
use Rattle.hc_board.specs.States.{words_of}
use Rattle.hc_modes.specs.State.{ObjectsState}
use Rattle.hc_sites.specs.declared.state.SiteState.{SiteState}
use Rattle.hc_session.specs.Jobs.{AreSeen}
use Rattle.hc_session.specs.Plans.{sites_left}
use Rattle.hc_session.proofs.Asked.{left-good, left-seen}
use Rattle.hc_session.proofs.Obeys.{objects_served}
use Rattle.hc_session.proofs.Quiet.{installed-left, quiet-since}
use Rattle.hc_session.proofs.Readers.{good-met, met-still}
use Rattle.hc_session.proofs.serve.serve_objects.Goals as goal

pub discard_since-requires-clause-quiet : goal.discard_since-requires-clause-quiet
discard_since-requires-clause-quiet g c same below =
    let keeps = c.perform_whole.ensures.keeps in
    quiet-since c.quiet_breaks_no_plan.ensures.law c.args.objects.now c.perform_whole.new.objects c.args.sites.now c.writes-before.result keeps.goes.trail keeps.shape keeps.facts.goes
    c.stands.ensures.desk c.stands-2.ensures.desk c.stands-2.ensures.sound.heap c.requires.installed c.writes-before.ensures.count same below

pub returns-clause-serves : goal.returns-clause-serves
returns-clause-serves g c =
    objects_served g.P.Pace.went c.args.objects.now c.perform_whole.new.objects c.discard_since.new.objects c.args.sites.now c.discard_since.new.sites c.args.log.now.lines c.discard_since.new.log.lines c.args.command.now _ c.requires.objects c.discard_since.ensures.still
    c.in_ok-reply.ensures.answers c.in_ok-reply.ensures.kept c.in_ok-reply.ensures.used c.discard_since.ensures.sites c.discard_since.ensures.lines

pub returns-clause-good : goal.returns-clause-good
returns-clause-good g c =
    let mid = c.perform_whole.new.objects in
    subst (λ (xs : List SiteState). AreGood c.discard_since.new.objects xs) (sym c.discard_since.ensures.sites)
    (left-good c.discard_since.new.objects mid.heap.view.shape (words_of mid.heap.desk) c.args.sites.now (good-met mid c.discard_since.new.objects c.args.sites.now (met-still mid c.discard_since.new.objects c.discard_since.ensures.still) c.perform_whole.ensures.good))

pub returns-clause-seen : goal.returns-clause-seen
returns-clause-seen g c =
    let mid = c.perform_whole.new.objects in
    subst (λ (xs : List SiteState). AreSeen c.discard_since.new.objects.heap.view.trail xs) (sym c.discard_since.ensures.sites)
    (subst (λ (s : ObjectsState _). AreSeen s.heap.view.trail (sites_left mid c.args.sites.now)) (sym c.discard_since.ensures.still.is) (left-seen mid.heap.view.trail mid.heap.view.shape (words_of mid.heap.desk) c.args.sites.now c.perform_whole.ensures.seen))

pub returns-clause-installed : goal.returns-clause-installed
returns-clause-installed g c =
    let keeps = c.perform_whole.ensures.keeps in
    installed-left c.plans_stay_installed.ensures.law c.objects_rest.ensures.law c.args.objects.now c.perform_whole.new.objects c.discard_since.new.objects c.args.sites.now c.discard_since.new.sites keeps.shape keeps.facts c.stands-2.ensures.sound c.stands-2.ensures.desk (keeps.calm c.requires.calm)
    c.requires.installed c.discard_since.ensures.still c.discard_since.ensures.sites
