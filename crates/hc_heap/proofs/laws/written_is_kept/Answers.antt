use Rattle.hc_heap.proofs.Keeping.{written-kept}
use Rattle.hc_heap.proofs.laws.written_is_kept.Goals as goal

pub returns : goal.returns
returns c = record { law = λ s old new g. written-kept s old new g }
