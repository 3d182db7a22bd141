use Rattle.hc_table.specs.Changes.{Nothing}
use Rattle.hc_session.proofs.Asked.{agree-still, found-came, found-live}
use Rattle.hc_session.proofs.Seen.{seen-on}
use Rattle.hc_session.proofs.asking.ask_once.Goals as goal

pub returns-clause-live : goal.returns-clause-live
returns-clause-live g c =
    found-live g.P.Pace.went c.args.objects.now c.answer_by_plan-found.new.objects c.args.sites.now c.args.log.now.lines c.answer_by_plan-found.new.log.lines c.args.s c.args.o c.args.value.now c.answer_by_plan-found.result
    (λ number hit. c.hits_are_live.ensures.law c.args.objects.now c.args.sites.now c.args.s c.args.o number c.args.value.now
    (c.objects_rest.ensures.law c.args.objects.now.heap.view c.args.objects.now.kept c.args.objects.now.of_null c.stands.ensures.sound c.requires.agree.calm) c.stands.ensures.desk c.requires.agree.installed hit)
    c.answer_by_plan-found.ensures.hit

pub returns-clause-goes : goal.returns-clause-goes
returns-clause-goes g c =
    let came = found-came g.P.Pace.went c.args.objects.now c.answer_by_plan-found.new.objects c.args.sites.now c.args.log.now.lines c.answer_by_plan-found.new.log.lines c.args.s c.args.o c.args.value.now c.answer_by_plan-found.result c.answer_by_plan-found.ensures.hit c.answer_by_plan-found.ensures.still in
    c.operations_go_on.ensures.law c.args.objects.now c.answer_by_plan-found.new.objects came.0 c.stands.ensures.sound.heap.lawful came.1

pub returns-clause-good : goal.returns-clause-good
returns-clause-good g c =
    let came = found-came g.P.Pace.went c.args.objects.now c.answer_by_plan-found.new.objects c.args.sites.now c.args.log.now.lines c.answer_by_plan-found.new.log.lines c.args.s c.args.o c.args.value.now c.answer_by_plan-found.result c.answer_by_plan-found.ensures.hit c.answer_by_plan-found.ensures.still in
    c.entries_stay_good.ensures.law c.args.objects.now c.answer_by_plan-found.new.objects came.0 c.args.sites.now c.stands.ensures.sound c.stands-2.ensures.sound c.stands.ensures.cells came.1 c.requires.agree.good

pub returns-clause-seen : goal.returns-clause-seen
returns-clause-seen g c =
    let came = found-came g.P.Pace.went c.args.objects.now c.answer_by_plan-found.new.objects c.args.sites.now c.args.log.now.lines c.answer_by_plan-found.new.log.lines c.args.s c.args.o c.args.value.now c.answer_by_plan-found.result c.answer_by_plan-found.ensures.hit c.answer_by_plan-found.ensures.still in
    seen-on c.answer_by_plan-found.new.objects.heap.view.shape c.args.objects.now.heap.view.trail c.answer_by_plan-found.new.objects.heap.view.trail c.args.sites.now c.written_is_kept.ensures.law
    (c.operations_go_on.ensures.law c.args.objects.now c.answer_by_plan-found.new.objects came.0 c.stands.ensures.sound.heap.lawful came.1).goes c.requires.agree.seen

pub returns-clause-agree : goal.returns-clause-agree
returns-clause-agree g c = λ none.
    agree-still c.args.objects.now c.answer_by_plan-found.new.objects c.args.sites.now (c.answer_by_plan-found.ensures.still none)
    (c.entries_stay_good.ensures.law c.args.objects.now c.answer_by_plan-found.new.objects Nothing c.args.sites.now c.stands.ensures.sound c.stands-2.ensures.sound c.stands.ensures.cells (c.answer_by_plan-found.ensures.still none) c.requires.agree.good)
    c.requires.agree

pub returns-clause-calm : goal.returns-clause-calm
returns-clause-calm g c =
    let came = found-came g.P.Pace.went c.args.objects.now c.answer_by_plan-found.new.objects c.args.sites.now c.args.log.now.lines c.answer_by_plan-found.new.log.lines c.args.s c.args.o c.args.value.now c.answer_by_plan-found.result c.answer_by_plan-found.ensures.hit c.answer_by_plan-found.ensures.still in
    c.prototypes_stay_calm.ensures.law c.args.objects.now c.answer_by_plan-found.new.objects came.0 c.stands.ensures.sound c.stands-2.ensures.sound came.1 c.requires.agree.calm
