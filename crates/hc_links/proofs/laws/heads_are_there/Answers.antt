use Rattle.hc_links.proofs.Chained.{head-there}
use Rattle.hc_links.proofs.laws.heads_are_there.Goals as goal

pub returns : goal.returns
returns c = record { law = λ s t m h. head-there s t m h }
