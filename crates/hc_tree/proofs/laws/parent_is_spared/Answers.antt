use Rattle.hc_tree.proofs.Spared.{spared}
use Rattle.hc_tree.proofs.laws.parent_is_spared.Goals as goal

pub returns : goal.returns
returns c = record { law = λ old new m c g key tree gate child live it. spared old new m c g key tree gate child it }
