use Rattle.std.proofs.Common.{◌≡◌, false, rules, ◌∙◌, ap}
use Rattle.hc_commands.specs.Words.{words_of, is_empty, is_comment}
use Rattle.hc_commands.proofs.FirstWord.{has_word}
use Rattle.hc_commands.proofs.words.is_passed_over.Goals as goal

pub returns-else-begins_comment : goal.returns-else-begins_comment
returns-else-begins_comment c =
    let none : c.is_empty.result ≡ is_empty (words_of c.without_blanks.result.now) = has_word c.without_blanks.result.now c.is_empty.result c.without_blanks.ensures.word (search rules) (search rules) in
    let comment : is_comment c.args.line.now ≡ false = search rules in
    rw comment (none ∙ ap is_empty c.without_blanks.ensures.same)
