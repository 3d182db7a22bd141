use Rattle.hc_objects.proofs.Lawful.{no-cell}
use Rattle.hc_objects.proofs.laws.operations_hand_out_no_cell.Goals as goal

pub returns : goal.returns
returns g c = record { law = λ a b did came. no-cell g.P.Pace.went a b did came }
