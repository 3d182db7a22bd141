use Rattle.hc_board.proofs.Trails.{image-store}
use Rattle.hc_board.proofs.laws.store_sets_image.Goals as goal

pub returns : goal.returns
returns c = record { law = image-store }
