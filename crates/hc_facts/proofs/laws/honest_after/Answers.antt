use Rattle.hc_facts.proofs.Facts.{honest}
use Rattle.hc_facts.proofs.laws.honest_after.Goals as goal

pub returns : goal.returns
returns c = record { law = λ s old new goes before filled. honest c.set_is_kept.ensures.law c.stable_is_kept.ensures.law s old new goes before filled }
