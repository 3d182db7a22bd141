use Rattle.hc_facts.proofs.Facts.{storing}
use Rattle.hc_facts.proofs.laws.storing_keeps_constants.Goals as goal

pub returns : goal.returns
returns c = record { law = storing }
