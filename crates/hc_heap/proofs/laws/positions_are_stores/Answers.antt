use Rattle.hc_heap.proofs.Keeping.{positions-are}
use Rattle.hc_heap.proofs.laws.positions_are_stores.Goals as goal

pub returns : goal.returns
returns c = record { law = λ s stores position. positions-are s stores position }
