use Rattle.hc_board.proofs.Readings.{fits-split, fits-append}
use Rattle.hc_board.proofs.laws.fits_meet.Goals as goal

pub returns : goal.returns
returns c = record { law = λ width trail from upto reads later. (fits-split width trail from upto reads later, λ s. fits-append width trail from s.0 upto reads later s.1 s.2) }
