use Rattle.hc_soundness.proofs.Plans.{seen-borne}
use Rattle.hc_soundness.proofs.laws.seen_is_borne.Goals as goal

pub returns : goal.returns
returns c = record {
  law = λ v kept plan rest is seen hold.
      seen-borne c.stable_is_kept.ensures.law c.details_rise.ensures.law c.links_are_kept.ensures.law c.same_keys_are_equal.ensures.law v kept plan rest is seen hold;
}
