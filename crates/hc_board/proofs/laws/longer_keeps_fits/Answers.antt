use Rattle.hc_board.proofs.Readings.{fits-longer}
use Rattle.hc_board.proofs.laws.longer_keeps_fits.Goals as goal

pub returns : goal.returns
returns c = record { law = fits-longer }
