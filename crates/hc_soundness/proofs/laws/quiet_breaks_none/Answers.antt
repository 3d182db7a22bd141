use Rattle.hc_soundness.proofs.Breaking.{quiet-holds}
use Rattle.hc_soundness.proofs.laws.quiet_breaks_none.Goals as goal

pub returns : goal.returns
returns c = record { law = λ s old new dep goes same h. quiet-holds s old new dep goes same h }
