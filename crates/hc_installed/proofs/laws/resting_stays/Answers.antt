use Rattle.hc_installed.proofs.Resting.{resting-stays}
use Rattle.hc_installed.proofs.laws.resting_stays.Goals as goal

pub returns : goal.returns
returns c = record { law = resting-stays c.longer_keeps_words.ensures.law c.positions_are_stores.ensures.law }
