use Rattle.hc_links.proofs.Later.{links-kept}
use Rattle.hc_links.proofs.laws.links_are_kept.Goals as goal

pub returns : goal.returns
returns c = record { law = λ s old new m g. links-kept s c.written_is_kept.ensures.law old new m g }
