use Rattle.hc_installed.proofs.Discarding.{events-count}
use Rattle.hc_installed.proofs.laws.other_events_add_no_plan.Goals as goal

pub returns : goal.returns
returns c = record { law = events-count }
