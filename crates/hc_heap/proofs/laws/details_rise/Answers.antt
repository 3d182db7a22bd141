use Rattle.hc_heap.proofs.Keeping.{details-rise}
use Rattle.hc_heap.proofs.laws.details_rise.Goals as goal

pub returns : goal.returns
returns c = record { law = λ s old new f d g e. details-rise s old new f d g e }
