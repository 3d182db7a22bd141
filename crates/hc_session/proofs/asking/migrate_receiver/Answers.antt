use Rattle.hc_table.specs.Changes.{Moved}
use Rattle.hc_session.proofs.Asked.{result-moves}
use Rattle.hc_session.proofs.Seen.{seen-on}
use Rattle.hc_session.proofs.asking.migrate_receiver.Goals as goal

pub returns-clause-moves : goal.returns-clause-moves
returns-clause-moves g c = result-moves g.P.Pace.went c.args.objects.now c.migrate-done.new.self c.args.o c.migrate-done.result c.migrate-done.ensures.made c.migrate-done.ensures.moved

pub returns-clause-goes : goal.returns-clause-goes
returns-clause-goes g c =
    let moves = result-moves g.P.Pace.went c.args.objects.now c.migrate-done.new.self c.args.o c.migrate-done.result c.migrate-done.ensures.made c.migrate-done.ensures.moved in
    c.operations_go_on.ensures.law c.args.objects.now c.migrate-done.new.self Moved c.stands.ensures.sound.heap.lawful moves

pub returns-clause-good : goal.returns-clause-good
returns-clause-good g c =
    let moves = result-moves g.P.Pace.went c.args.objects.now c.migrate-done.new.self c.args.o c.migrate-done.result c.migrate-done.ensures.made c.migrate-done.ensures.moved in
    c.entries_stay_good.ensures.law c.args.objects.now c.migrate-done.new.self Moved c.args.sites.now c.stands.ensures.sound c.stands-2.ensures.sound c.stands.ensures.cells moves c.requires.agree.good

pub returns-clause-seen : goal.returns-clause-seen
returns-clause-seen g c =
    let moves = result-moves g.P.Pace.went c.args.objects.now c.migrate-done.new.self c.args.o c.migrate-done.result c.migrate-done.ensures.made c.migrate-done.ensures.moved in
    seen-on c.migrate-done.new.self.heap.view.shape c.args.objects.now.heap.view.trail c.migrate-done.new.self.heap.view.trail c.args.sites.now c.written_is_kept.ensures.law
    (c.operations_go_on.ensures.law c.args.objects.now c.migrate-done.new.self Moved c.stands.ensures.sound.heap.lawful moves).goes c.requires.agree.seen

pub returns-clause-calm : goal.returns-clause-calm
returns-clause-calm g c =
    let moves = result-moves g.P.Pace.went c.args.objects.now c.migrate-done.new.self c.args.o c.migrate-done.result c.migrate-done.ensures.made c.migrate-done.ensures.moved in
    c.prototypes_stay_calm.ensures.law c.args.objects.now c.migrate-done.new.self Moved c.stands.ensures.sound c.stands-2.ensures.sound moves c.requires.agree.calm

pub returns-clause-honest : goal.returns-clause-honest
returns-clause-honest g c =
    let moves = result-moves g.P.Pace.went c.args.objects.now c.migrate-done.new.self c.args.o c.migrate-done.result c.migrate-done.ensures.made c.migrate-done.ensures.moved in
    (c.fields_stay_honest.ensures.law c.args.objects.now c.migrate-done.new.self Moved c.stands.ensures.sound moves).honest c.requires.agree.honest
