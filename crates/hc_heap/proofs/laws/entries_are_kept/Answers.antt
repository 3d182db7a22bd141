use Rattle.hc_heap.proofs.Keeping.{entries-kept}
use Rattle.hc_heap.proofs.laws.entries_are_kept.Goals as goal

pub returns : goal.returns
returns c = record { law = λ s old middle new m g k a b e lt. entries-kept s old middle new m g k a b e lt }
