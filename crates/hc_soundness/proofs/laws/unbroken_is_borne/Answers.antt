use Rattle.hc_soundness.proofs.Installing.{unbroken-borne}
use Rattle.hc_soundness.proofs.laws.unbroken_is_borne.Goals as goal

pub returns : goal.returns
returns c = record {
  law = λ old v d kept plan rest desk goes constants h unbroken.
      unbroken-borne c.holds_as_the_trail_says.ensures.law c.stores_are_writes.ensures.law v d kept rest desk c.borne_is_kept.ensures.law old plan goes constants h unbroken;
}
