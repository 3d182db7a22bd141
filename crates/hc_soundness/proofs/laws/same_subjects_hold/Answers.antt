use Rattle.hc_soundness.proofs.Breaking.{same-holds}
use Rattle.hc_soundness.proofs.laws.same_subjects_hold.Goals as goal

pub returns : goal.returns
returns c = record { law = λ s old new dep same h. same-holds s old new dep same h }
