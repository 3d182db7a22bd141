use Rattle.hc_cells.proofs.Stay.{marks-stay}
use Rattle.hc_cells.proofs.laws.marks_stay.Goals as goal

pub returns : goal.returns
returns c = record { law = marks-stay c.chains_stay.ensures.law c.ways_stay.ensures.law }
