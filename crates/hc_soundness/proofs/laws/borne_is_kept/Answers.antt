use Rattle.hc_soundness.proofs.Plans.{borne-kept}
use Rattle.hc_soundness.proofs.laws.borne_is_kept.Goals as goal

pub returns : goal.returns
returns c = record {
  law = λ old v kept plan rest goes constants h hold.
      borne-kept c.stable_is_kept.ensures.law c.told_is_seen.ensures.law c.seen_is_borne.ensures.law old v kept plan rest goes constants h hold;
}
