use Rattle.hc_board.proofs.Trails.{word-longer}
use Rattle.hc_board.proofs.laws.longer_keeps_words.Goals as goal

pub returns : goal.returns
returns c = record { law = word-longer }
