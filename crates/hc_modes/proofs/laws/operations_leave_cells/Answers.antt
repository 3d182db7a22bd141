use Rattle.hc_modes.proofs.Uncelled.{came-cells}
use Rattle.hc_modes.proofs.laws.operations_leave_cells.Goals as goal

pub returns : goal.returns
returns g c = record { law = λ a b did came. came-cells g.P.Pace.went a b did came }
