use Rattle.hc_soundness.proofs.Plans.{told-borne}
use Rattle.hc_soundness.proofs.laws.told_is_borne.Goals as goal

pub returns : goal.returns
returns c = record { law = λ v kept plan rest is told. told-borne c.forms_are_kept.ensures.law c.unused_says_nothing.ensures.law c.writes_are_within.ensures.law v kept plan rest is told }
