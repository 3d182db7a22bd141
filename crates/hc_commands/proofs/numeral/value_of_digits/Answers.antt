use Rattle.std.proofs.Common.{arith, ◌<◌, length}
use Rattle.hc_commands.proofs.Numerals.{passes_most}
use Rattle.hc_commands.proofs.numeral.value_of_digits.Goals as goal

pub returns-then-value-most-clause-none : goal.returns-then-value-most-clause-none
returns-then-value-most-clause-none c _ =
    let here : c.loop-digit.digit-index < length c.args.word.now = omega arith in
    passes_most c.args.most c.loop-digit.value c.loop-digit.digit-index c.args.word.now here c.loop-digit.invariant.value (omega arith)
