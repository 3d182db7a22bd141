use Rattle.hc_board.proofs.Readings.{fits-wider}
use Rattle.hc_board.proofs.laws.wider_keeps_fits.Goals as goal

pub returns : goal.returns
returns c = record { law = fits-wider }
