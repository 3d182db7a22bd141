use Rattle.hc_links.proofs.Chained.{links-chained}
use Rattle.hc_links.proofs.laws.links_are_chained.Goals as goal

pub returns : goal.returns
returns c = record { law = λ s t m h. links-chained s c.written_is_kept.ensures.law t m h }
