use Rattle.std.proofs.Common.{◌≡◌, ℕ, rules, ap, ◌∙◌, replicate}
use Rattle.hc_board.specs.Trail.{image_of, replayed}
use Rattle.hc_board.specs.States.{words_of}
use Rattle.hc_board.proofs.Keeps.{opens}
use Rattle.hc_board.proofs.making.Board.make.Goals as goal

pub of_words-requires : goal.of_words-requires
of_words-requires c = opens _ _ (search rules)

pub returns-clause-zeros : goal.returns-clause-zeros
unfolding image_of replayed
returns-clause-zeros c =
    let width : c.in_ok-table.seat.table_id.words ≡ c.args.words = search rules in
    ap words_of c.seated-writer.ensures ∙ ap (λ n. replicate {A = ℕ} n 0) width
