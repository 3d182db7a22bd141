use Rattle.hc_board.proofs.Trails.{image-wide}
use Rattle.hc_board.proofs.laws.image_is_wide.Goals as goal

pub returns : goal.returns
returns c = record { law = image-wide }
