use Rattle.hc_soundness.proofs.Breaking.{unbroken}
use Rattle.hc_soundness.proofs.laws.others_are_unbroken.Goals as goal

pub returns : goal.returns
returns c = record { law = λ s old more dep others h. unbroken old s more dep others h }
