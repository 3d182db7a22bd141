use Rattle.hc_installed.proofs.Discarding.{new-count}
use Rattle.hc_installed.proofs.Keeping.{new-keeps}
use Rattle.hc_installed.proofs.laws.new_sites_have_no_plan.Goals as goal

pub returns : goal.returns
returns c = record { law = new-keeps; count = new-count }
