use Rattle.hc_board.proofs.Readings.{fits-here, here-fits}
use Rattle.hc_board.proofs.laws.one_position.Goals as goal

pub returns : goal.returns
returns c = record { law = λ width trail position reads. (fits-here width trail position reads, here-fits width trail position reads) }
