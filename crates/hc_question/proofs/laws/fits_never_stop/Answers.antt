use Rattle.hc_question.proofs.Positions.{fits-goes-on}
use Rattle.hc_question.proofs.laws.fits_never_stop.Goals as goal

pub returns : goal.returns
returns c = record { law = fits-goes-on }
