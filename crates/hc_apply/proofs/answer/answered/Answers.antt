use Rattle.std.proofs.Common.{◌∙◌, sym}
use Rattle.hc_apply.proofs.Cases.{told-at, has-answer}
use Rattle.hc_apply.proofs.answer.answered.Goals as goal

pub unreachable-requires : goal.unreachable-requires
unreachable-requires g c =
    told-at (g.L.Look.image c.args.peek.now.look.now) c.requires.told
    (λ words told. has-answer c.args.peek.now.shape words c.args.object c.args.value.now c.args.number c.args.way (c.requires.readable words told)
    (sym (c.answer.ensures.answer words told) ∙ c.in_default.is))
