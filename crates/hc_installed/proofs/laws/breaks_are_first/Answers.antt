use Rattle.hc_installed.proofs.Tests.{breaks-first}
use Rattle.hc_installed.proofs.laws.breaks_are_first.Goals as goal

pub returns : goal.returns
returns c = record { law = breaks-first }
