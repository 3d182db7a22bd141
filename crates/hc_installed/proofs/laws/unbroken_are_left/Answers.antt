use Rattle.hc_installed.proofs.Discarding.{unbroken-left}
use Rattle.hc_installed.proofs.laws.unbroken_are_left.Goals as goal

pub returns : goal.returns
returns c = record { law = unbroken-left }
