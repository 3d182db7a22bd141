use Rattle.std.proofs.Common.{None, refl, ◌∙◌}
use Rattle.hc_heap.specs.Frames.{goes-still}
use Rattle.hc_modes.specs.Laws.{still-on, still-refl}
use Rattle.hc_session.proofs.Asked.{answered-before, missed-before, missed-first, moves-still, quick-by, quick-hit-by, ready-first}
use Rattle.hc_session.proofs.asking.ask_plan.Goals as goal

pub returns-in-Some-clause-answered : goal.returns-in-Some-clause-answered
returns-in-Some-clause-answered g c =
    let a = c.args.objects.now in
    let unbroken = c.quiet_breaks_no_plan.ensures.law a.heap.view.trail a.heap.view a.heap.desk c.args.sites.now c.stands.ensures.sound.heap c.stands.ensures.desk (goes-still a.heap.view.shape c.stands.ensures.sound.heap.lawful) refl c.requires.agree.installed in
    record {
      ready = a;
      log_ready = c.args.log.now.lines;
      is_ready = ready-first g.P.Pace.went a c.args.sites.now c.args.log.now.lines c.args.o a (c.in-Some.ensures.live refl) (still-refl a) unbroken;
      hit = c.in-Some.ensures.hit;
      installed = c.requires.agree.installed;
      goes = c.ask_once.ensures.goes;
    }

pub returns-then-not-is_dead_receiver-clause-missed : goal.returns-then-not-is_dead_receiver-clause-missed
returns-then-not-is_dead_receiver-clause-missed g c = λ none.
    let a = c.args.objects.now in
    let still = c.ask_once.ensures.still c.in_default.is in
    let unbroken = c.quiet_breaks_no_plan.ensures.law a.heap.view.trail a.heap.view a.heap.desk c.args.sites.now c.stands.ensures.sound.heap c.stands.ensures.desk (goes-still a.heap.view.shape c.stands.ensures.sound.heap.lawful) refl c.requires.agree.installed in
    missed-first g.P.Pace.went a c.is_dead_receiver.new.objects c.args.sites.now c.args.log.now.lines c.ask_once.new.log.lines c.args.s c.args.o c.args.value.now
    (c.is_dead_receiver.ensures.live c.if-not-is_dead_receiver.true) (still-on a c.ask_once.new.objects c.is_dead_receiver.new.objects still c.is_dead_receiver.ensures.still)
    (c.ask_once.ensures.quiet c.in_default.is) unbroken
    (c.loads_keep_answers.ensures.miss c.ask_once.new.objects c.is_dead_receiver.new.objects c.args.sites.now c.args.s c.args.o c.args.value.now c.is_dead_receiver.ensures.still (c.ask_once.ensures.miss c.in_default.is)) c.is_dead_receiver.ensures.agree

pub returns-clause-answered : goal.returns-clause-answered
returns-clause-answered g c =
    let still = still-on c.args.objects.now c.ask_once.new.objects c.is_dead_receiver.new.objects (c.ask_once.ensures.still c.in_default.is) c.is_dead_receiver.ensures.still in
    answered-before g.P.Pace.went c.loads_come_first.ensures.live c.args.objects.now c.is_dead_receiver.new.objects c.ask_migrated.new.objects c.args.sites.now c.ask_migrated.new.sites c.args.log.now.lines c.ask_once.new.log.lines c.ask_migrated.new.log.lines c.args.s c.args.o c.args.value.now still
    (c.ask_once.ensures.quiet c.in_default.is) c.ask_migrated.result c.ask_migrated.ensures.answered

pub returns-clause-missed : goal.returns-clause-missed
returns-clause-missed g c =
    let still = still-on c.args.objects.now c.ask_once.new.objects c.is_dead_receiver.new.objects (c.ask_once.ensures.still c.in_default.is) c.is_dead_receiver.ensures.still in
    missed-before g.P.Pace.went c.loads_come_first.ensures.live c.args.objects.now c.is_dead_receiver.new.objects c.ask_migrated.new.objects c.args.sites.now c.ask_migrated.new.sites c.args.log.now.lines c.ask_once.new.log.lines c.ask_migrated.new.log.lines c.args.s c.args.o c.args.value.now still
    (c.ask_once.ensures.quiet c.in_default.is) c.ask_migrated.result c.ask_migrated.ensures.missed

pub returns-clause-quick : goal.returns-clause-quick
returns-clause-quick g c =
    quick-by 5 c.args.objects.now c.is_dead_receiver.new.objects c.ask_migrated.new.objects c.args.value.now c.ask_migrated.result
    (still-on c.args.objects.now c.ask_once.new.objects c.is_dead_receiver.new.objects (c.ask_once.ensures.still c.in_default.is) c.is_dead_receiver.ensures.still) c.ask_migrated.ensures.stored

pub returns-clause-quick_hit : goal.returns-clause-quick_hit
returns-clause-quick_hit g c =
    quick-hit-by 4 c.args.objects.now c.is_dead_receiver.new.objects c.ask_migrated.new.objects c.args.value.now c.ask_migrated.result
    (still-on c.args.objects.now c.ask_once.new.objects c.is_dead_receiver.new.objects (c.ask_once.ensures.still c.in_default.is) c.is_dead_receiver.ensures.still) c.ask_migrated.ensures.stored

pub returns-clause-moves : goal.returns-clause-moves
returns-clause-moves g c =
    moves-still g.P.Pace.went c.args.objects.now c.is_dead_receiver.new.objects c.ask_migrated.new.objects c.ask_migrated.result
    (still-on c.args.objects.now c.ask_once.new.objects c.is_dead_receiver.new.objects (c.ask_once.ensures.still c.in_default.is) c.is_dead_receiver.ensures.still) c.ask_migrated.ensures.moves
