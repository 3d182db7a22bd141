use Rattle.hc_installed.proofs.Settling.{outcome-installed}
use Rattle.hc_installed.proofs.laws.outcomes_stay_installed.Goals as goal

pub returns : goal.returns
returns c = record { law = outcome-installed c.installed_is_borne.ensures.law c.told_is_of_site.ensures.law c.entry_fits_as_one.ensures.law }
