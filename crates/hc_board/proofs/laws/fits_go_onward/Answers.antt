use Rattle.hc_board.proofs.Readings.{fits-bound}
use Rattle.hc_board.proofs.laws.fits_go_onward.Goals as goal

pub returns : goal.returns
returns c = record { law = fits-bound }
