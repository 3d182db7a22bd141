use Rattle.hc_heap.proofs.Keeping.{positions-go}
use Rattle.hc_heap.proofs.laws.positions_go_on.Goals as goal

pub returns : goal.returns
returns c = record { law = λ s t from upto h l. positions-go s t from upto h l }
