use Rattle.std.proofs.Common.{◌≡◌, ◌+◌, drop, false}
use Rattle.hc_commands.specs.Words.{word_end}
use Rattle.hc_commands.proofs.words.end_of_word.Given as goal

-- the bytes so far stand in the word, which goes on in what is left
abbrev pub invariant-loop-i : goal.invariant-loop-i
invariant-loop-i l = l.i + word_end l.quoted (drop l.i l.bytes) ≡ word_end false l.bytes
