use Rattle.hc_links.proofs.Later.{linked-newest}
use Rattle.hc_links.proofs.laws.linked_is_newest.Goals as goal

pub returns : goal.returns
returns c = record { law = λ s t m l key child h. linked-newest s c.links_are_kept.ensures.law t m l key child h }
