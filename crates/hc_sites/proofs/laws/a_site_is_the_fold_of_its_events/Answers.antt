use Rattle.hc_sites.proofs.Folds.{fold-of-events}
use Rattle.hc_sites.proofs.laws.a_site_is_the_fold_of_its_events.Goals as goal

pub returns : goal.returns
returns c = record { law = fold-of-events }
