use Rattle.hc_sites.proofs.Folds.{mega-for_good}
use Rattle.hc_sites.proofs.laws.megamorphic_for_good.Goals as goal

pub returns : goal.returns
returns c = record { law = mega-for_good }
