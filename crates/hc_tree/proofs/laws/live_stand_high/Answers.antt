use Rattle.hc_tree.proofs.Spared.{stand-high}
use Rattle.hc_tree.proofs.laws.live_stand_high.Goals as goal

pub returns : goal.returns
returns c = record { law = stand-high }
