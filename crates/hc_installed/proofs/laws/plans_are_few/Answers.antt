use Rattle.hc_installed.proofs.Discarding.{plans-few}
use Rattle.hc_installed.proofs.laws.plans_are_few.Goals as goal

pub returns : goal.returns
returns c = record { law = plans-few }
