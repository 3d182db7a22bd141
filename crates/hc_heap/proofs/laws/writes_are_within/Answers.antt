use Rattle.hc_heap.proofs.Holding.{within-board}
use Rattle.hc_heap.proofs.laws.writes_are_within.Goals as goal

pub returns : goal.returns
returns c = record { law = λ s t h. within-board s t h }
