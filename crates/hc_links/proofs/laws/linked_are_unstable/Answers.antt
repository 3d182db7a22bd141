use Rattle.hc_links.proofs.Chained.{linked-unstable}
use Rattle.hc_links.proofs.laws.linked_are_unstable.Goals as goal

pub returns : goal.returns
returns c = record { law = λ s t m k ks h some. linked-unstable s c.set_is_kept.ensures.law t m k ks h some }
