use Rattle.hc_links.proofs.Chained.{links-lead}
use Rattle.hc_links.proofs.laws.links_lead.Goals as goal

pub returns : goal.returns
returns c = record { law = λ s t m h. links-lead s c.written_is_kept.ensures.law t m h }
