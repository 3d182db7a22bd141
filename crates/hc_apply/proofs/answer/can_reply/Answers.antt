use Rattle.hc_apply.proofs.Cases.{can-read}
use Rattle.hc_apply.proofs.answer.can_reply.Goals as goal

pub returns-in_default-clause-answer : goal.returns-in_default-clause-answer
returns-in_default-clause-answer g c = λ words told.
    can-read c.args.peek.now.shape words c.args.object c.args.value.now 0 c.args.way c.in_default.not-StoreOwn c.in_default.not-Add
    c.reply.result c.is_some.result (c.reply.ensures.reply words told) c.is_some.ensures
