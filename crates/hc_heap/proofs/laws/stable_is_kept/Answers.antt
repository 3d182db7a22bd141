use Rattle.hc_heap.proofs.Keeping.{stable-kept}
use Rattle.hc_heap.proofs.laws.stable_is_kept.Goals as goal

pub returns : goal.returns
returns c = record { law = λ s old new o h g e stable. stable-kept s old new o h g e stable }
