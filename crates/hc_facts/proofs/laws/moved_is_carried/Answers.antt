use Rattle.hc_facts.proofs.Facts.{moved}
use Rattle.hc_facts.proofs.laws.moved_is_carried.Goals as goal

pub returns : goal.returns
returns c = record { law = moved }
