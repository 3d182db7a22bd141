use Rattle.hc_heap.proofs.Keeping.{open-of}
use Rattle.hc_heap.proofs.laws.gates_are_open.Goals as goal

pub returns : goal.returns
returns c = record { law = λ s t m g h e. open-of s t m g h e }
