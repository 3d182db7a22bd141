use Rattle.hc_answers.proofs.Few.{few}
use Rattle.hc_answers.proofs.laws.links_are_few.Goals as goal

pub returns : goal.returns
returns c = record { law = λ s t m h. few s c.links_are_chained.ensures.law c.links_lead.ensures.law t m h }
