use Rattle.hc_objects.specs.Laws.{came-stands}
use Rattle.hc_objects.proofs.laws.operations_stand.Goals as goal

pub returns : goal.returns
returns g c = record { law = λ a b did sound came. came-stands g.P.Pace.went a b did sound came }
