use Rattle.hc_heap.proofs.Saying.{says-nothing}
use Rattle.hc_heap.proofs.laws.unused_says_nothing.Goals as goal

pub returns : goal.returns
returns c = record { law = λ counts t kind item h past. says-nothing counts t h kind item past }
