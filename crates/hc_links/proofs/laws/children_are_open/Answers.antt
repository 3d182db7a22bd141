use Rattle.hc_links.proofs.Later.{child-open}
use Rattle.hc_links.proofs.laws.children_are_open.Goals as goal

pub returns : goal.returns
returns c = record { law = λ s t m key h. child-open s c.same_keys_are_equal.ensures.law t m key c.links_lead.ensures.law h }
