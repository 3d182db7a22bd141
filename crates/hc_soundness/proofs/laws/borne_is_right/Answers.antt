use Rattle.hc_soundness.proofs.Plans.{borne-right}
use Rattle.hc_soundness.proofs.laws.borne_is_right.Goals as goal

pub returns : goal.returns
returns c = record { law = λ v kept plan rest h. borne-right c.gates_are_open.ensures.law c.unused_says_nothing.ensures.law v kept plan rest h }
