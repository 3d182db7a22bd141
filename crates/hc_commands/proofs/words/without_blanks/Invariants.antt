use Rattle.std.proofs.Common.{◌≡◌, length}
use Rattle.hc_commands.specs.Words.{words_of}
use Rattle.hc_commands.proofs.words.without_blanks.Given as goal

-- no word was passed
abbrev pub invariant-loop-rest : goal.invariant-loop-rest
invariant-loop-rest l = words_of l.rest ≡ words_of l.bytes

abbrev pub decreases-loop-rest : goal.decreases-loop-rest
decreases-loop-rest l = length l.rest
