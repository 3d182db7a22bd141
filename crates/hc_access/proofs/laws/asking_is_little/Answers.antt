use Rattle.hc_access.proofs.Asking.{few-cells}
use Rattle.hc_access.proofs.laws.asking_is_little.Goals as goal

pub returns : goal.returns
returns g c = record { cells = λ a b asked. few-cells g.P.Pace.went a b asked; goes = λ a b asked. c.operations_go_on.ensures.cells a b asked.only }
