use Rattle.std.proofs.Common.{arith}
use Rattle.std.proofs.lemmas.Int.{ints}
use Rattle.hc_value.proofs.Words.{unwide_from, unwide_over}
use Rattle.hc_value.proofs.word.unwide.Goals as goal

pub returns-then-w : goal.returns-then-w
returns-then-w c =
    record { value = unwide_from c.new.result _ c.args.w c.new.ensures.range c.new.ensures.value (omega (arith, ints)) }

pub returns-else-w : goal.returns-else-w
returns-else-w c = record { value = unwide_over c.args.w c.if-w.false }
