use Rattle.hc_installed.proofs.Settling.{prompt-holds}
use Rattle.hc_installed.proofs.laws.prompt_outcomes_are_not_refused.Goals as goal

pub returns : goal.returns
returns c = record { law = prompt-holds c.told_at_once_holds.ensures.law }
