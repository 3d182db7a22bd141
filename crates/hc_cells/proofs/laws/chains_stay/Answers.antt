use Rattle.hc_cells.proofs.Stay.{chains-stay}
use Rattle.hc_cells.proofs.laws.chains_stay.Goals as goal

pub returns : goal.returns
returns c = record { law = λ o p old new protos later keep ends missed. chains-stay o old new protos later keep p ends missed }
