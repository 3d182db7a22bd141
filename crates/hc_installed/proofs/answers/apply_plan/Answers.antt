use Rattle.hc_installed.proofs.Applying.{applied-on, case-named, may-apply, readable-on}
use Rattle.hc_installed.proofs.answers.apply_plan.Goals as goal

pub apply-requires-clause-places : goal.apply-requires-clause-places
apply-requires-clause-places g c =
    let a = c.args.objects.now in
    (c.borne_can_apply.ensures.law a.heap.view a.heap.desk a.kept c.args.plan.now c.slot_room-room.result c.args.o c.args.value.now c.requires.rest c.stands.ensures.desk c.requires.borne c.requires.given).places

pub apply-requires-clause-readable : goal.apply-requires-clause-readable
apply-requires-clause-readable g c =
    let a = c.args.objects.now in
    readable-on c.args.shape a.heap.view a.heap.desk c.requires.shape c.slot_room-room.result c.args.o c.args.value.now c.args.plan.now.cases c.stands.ensures.desk
    (c.borne_can_apply.ensures.law a.heap.view a.heap.desk a.kept c.args.plan.now c.slot_room-room.result c.args.o c.args.value.now c.requires.rest c.stands.ensures.desk c.requires.borne c.requires.given).readable

pub returns-clause-case : goal.returns-clause-case
returns-clause-case g c =
    let a = c.args.objects.now in
    case-named a c.args.o c.args.value.now c.args.plan.now.cases c.apply.result
    (applied-on c.args.shape a.heap.view a.heap.desk c.requires.shape c.slot_room-room.result c.args.o c.args.value.now c.args.plan.now.cases c.apply.result c.slot_room-room.ensures c.apply.ensures.answer)

pub returns-clause-may : goal.returns-clause-may
returns-clause-may g c =
    let a = c.args.objects.now in
    may-apply c.words_say.ensures.law c.stores_are_writes.ensures.law c.now_is_image.ensures.law c.forms_are_kept.ensures.law c.unused_says_nothing.ensures.law a.heap.view a.heap.desk c.requires.rest.heap c.stands.ensures.desk
    c.args.plan.now c.requires.borne c.args.o c.args.value.now c.apply.result c.requires.given
    (applied-on c.args.shape a.heap.view a.heap.desk c.requires.shape c.slot_room-room.result c.args.o c.args.value.now c.args.plan.now.cases c.apply.result c.slot_room-room.ensures c.apply.ensures.answer)
