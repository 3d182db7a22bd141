use Rattle.hc_board.proofs.Trails.{word-past}
use Rattle.hc_board.proofs.laws.past_is_zero.Goals as goal

pub returns : goal.returns
returns c = record { law = word-past }
