use Rattle.std.proofs.Common.{◌≡◌, length, rules, sym, ◌∙◌}
use Rattle.hc_commands.proofs.FirstWord.{first_word_is}
use Rattle.hc_commands.proofs.words.first_word.Goals as goal

pub returns-clause-some : goal.returns-clause-some
returns-clause-some c =
    let some : length c.without_blanks-rest.result.now ≡ 0 → ⊥ = search rules in
    rw c.end_of_word-end.ensures.end (sym c.without_blanks-rest.ensures.same ∙ first_word_is _ c.without_blanks-rest.ensures.word some)
