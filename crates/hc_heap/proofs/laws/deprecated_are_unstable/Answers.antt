use Rattle.hc_heap.proofs.Holding.{dead-unstable}
use Rattle.hc_heap.proofs.laws.deprecated_are_unstable.Goals as goal

pub returns : goal.returns
returns c = record { law = λ s t m h d. dead-unstable s t m h d }
