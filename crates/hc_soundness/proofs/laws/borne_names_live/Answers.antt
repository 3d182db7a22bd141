use Rattle.hc_soundness.proofs.Plans.{borne-live}
use Rattle.hc_soundness.proofs.laws.borne_names_live.Goals as goal

pub returns : goal.returns
returns c = record { law = λ v kept plan rest h. borne-live c.deprecated_are_unstable.ensures.law v kept plan rest h }
