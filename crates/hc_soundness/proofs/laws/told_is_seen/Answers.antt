use Rattle.hc_soundness.proofs.Plans.{told-seen}
use Rattle.hc_soundness.proofs.laws.told_is_seen.Goals as goal

pub returns : goal.returns
returns c = record { law = λ s old new op name case goes h. told-seen c.written_is_kept.ensures.law c.entries_are_kept.ensures.law s old new op name case goes h }
