use Rattle.hc_soundness.proofs.Telling.{plan-of-told}
use Rattle.hc_soundness.proofs.laws.told_is_of_site.Goals as goal

pub returns : goal.returns
returns c = record { law = λ s site what maps mega reads plan told. plan-of-told s site what maps mega reads plan told }
