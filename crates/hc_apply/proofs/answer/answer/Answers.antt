use Rattle.std.proofs.Common.{◌≡◌, ◌∙◌, sym, ap}
use Rattle.std.specs.Prelude.{None, option_map}
use Rattle.hc_apply.specs.Answers.{answer_on}
use Rattle.hc_apply.specs.declared.applied.Applied.TheVariants.{Answer}
use Rattle.hc_apply.proofs.Cases.{by-reply}
use Rattle.hc_apply.proofs.answer.answer.Goals as goal

pub returns-in_err-reply-in_default-clause-answer : goal.returns-in_err-reply-in_default-clause-answer
returns-in_err-reply-in_default-clause-answer g c = λ words told.
    let none : answer_on c.args.peek.now.shape words c.args.object c.args.value.now c.args.number c.args.way ≡ None =
    by-reply c.args.peek.now.shape words c.args.object c.args.value.now c.args.number c.args.way c.in_default.not-StoreOwn c.in_default.not-Add
    ∙ ap (option_map (Answer c.args.number)) (sym (c.reply.ensures.reply words told) ∙ c.in_err-reply-in_default.was) in
    cc

pub returns-in_ok-reply-in_default-clause-answer : goal.returns-in_ok-reply-in_default-clause-answer
returns-in_ok-reply-in_default-clause-answer g c = λ words told.
    sym (by-reply c.args.peek.now.shape words c.args.object c.args.value.now c.args.number c.args.way c.in_default.not-StoreOwn c.in_default.not-Add
    ∙ ap (option_map (Answer c.args.number)) (sym (c.reply.ensures.reply words told) ∙ c.in_ok-reply-in_default.was))
