use Rattle.hc_heap.proofs.Keeping.{length-typed}
use Rattle.hc_heap.proofs.laws.stores_are_writes.Goals as goal

pub returns : goal.returns
returns c = record { law = λ s stores. length-typed s stores }
