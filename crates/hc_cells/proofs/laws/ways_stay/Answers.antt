use Rattle.std.proofs.Common.{Some, length}
use Rattle.std.proofs.Math.Nat.{le_refl}
use Rattle.hc_cells.proofs.Stay.{ways-stay}
use Rattle.hc_cells.proofs.laws.ways_stay.Goals as goal

pub returns : goal.returns
returns c = record { law = λ o p old new protos later keep ends after. ways-stay o old new protos later keep (length protos) (length later) (Some p) (le_refl (length protos)) ends after }
