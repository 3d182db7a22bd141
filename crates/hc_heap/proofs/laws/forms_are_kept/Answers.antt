use Rattle.hc_heap.proofs.Holding.{forms-hold}
use Rattle.hc_heap.proofs.laws.forms_are_kept.Goals as goal

pub returns : goal.returns
returns c = record { law = λ s t h. forms-hold s t h }
