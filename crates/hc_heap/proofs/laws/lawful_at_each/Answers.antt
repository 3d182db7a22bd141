use Rattle.hc_heap.proofs.Keeping.{lawful-at}
use Rattle.hc_heap.proofs.laws.lawful_at_each.Goals as goal

pub returns : goal.returns
returns c = record { law = λ s t position h. lawful-at s t position h }
