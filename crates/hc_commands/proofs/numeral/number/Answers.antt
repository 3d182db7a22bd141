use Rattle.std.proofs.Common.{rules}
use Rattle.hc_commands.proofs.Numerals.{found_is_written, none_is_written, unplain_is_not_written}
use Rattle.hc_commands.proofs.numeral.number.Goals as goal

pub returns-then-not-begins_as_number-clause-none :
    goal.returns-then-not-begins_as_number-clause-none
returns-then-not-begins_as_number-clause-none c =
    unplain_is_not_written c.args.word.now c.args.most c.requires (search rules)

pub returns-clause-written : goal.returns-clause-written
returns-clause-written c =
    found_is_written c.value_of_digits.result c.args.word.now c.args.most c.requires (search rules)
    c.value_of_digits.ensures.digits c.value_of_digits.ensures.value c.value_of_digits.ensures.small

pub returns-clause-none : goal.returns-clause-none
returns-clause-none c =
    none_is_written c.value_of_digits.result c.args.word.now c.args.most c.requires c.value_of_digits.ensures.none
