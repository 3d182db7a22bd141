use Rattle.hc_heap.proofs.Keeping.{set-kept}
use Rattle.hc_heap.proofs.laws.set_is_kept.Goals as goal

pub returns : goal.returns
returns c = record { law = λ s old new g. set-kept s old new g }
