use Rattle.hc_facts.proofs.Facts.{given}
use Rattle.hc_facts.proofs.laws.stored_is_given.Goals as goal

pub returns : goal.returns
returns c = record { law = given }
