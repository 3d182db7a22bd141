use Rattle.hc_board.proofs.Trails.{word-now}
use Rattle.hc_board.proofs.laws.now_is_image.Goals as goal

pub returns : goal.returns
returns c = record { law = word-now }
