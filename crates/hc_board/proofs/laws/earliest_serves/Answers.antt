use Rattle.hc_board.proofs.First.{fits-earliest, earliest-fits}
use Rattle.hc_board.proofs.laws.earliest_serves.Goals as goal

pub returns : goal.returns
returns c = record { law = λ width trail from upto reads. (fits-earliest width trail from upto reads, earliest-fits width trail from upto reads) }
