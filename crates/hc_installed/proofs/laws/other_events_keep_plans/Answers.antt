use Rattle.hc_installed.proofs.Keeping.{events-keep}
use Rattle.hc_installed.proofs.laws.other_events_keep_plans.Goals as goal

pub returns : goal.returns
returns c = record { law = events-keep }
