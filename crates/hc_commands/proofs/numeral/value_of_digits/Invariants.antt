use Rattle.std.proofs.Common.{◌≡◌, ◌≤◌, drop}
use Rattle.hc_commands.specs.Numeral.{all_digits, value_after}
use Rattle.hc_commands.proofs.numeral.value_of_digits.Given as goal

-- what is left is digits exactly where the whole word is, and goes on to its value
abbrev pub invariant-loop-digit : goal.invariant-loop-digit
invariant-loop-digit l = record {
  small : l.value ≤ l.most;
  value : value_after l.value (drop l.digit-index l.word) ≡ value_after 0 l.word;
  digits : all_digits (drop l.digit-index l.word) ≡ all_digits l.word;
}
