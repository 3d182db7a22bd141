use Rattle.hc_heap.proofs.Holding.{stores-grow}
use Rattle.hc_heap.proofs.laws.stores_grow.Goals as goal

pub returns : goal.returns
returns c = record { law = λ s old new o g. stores-grow s old new o g }
