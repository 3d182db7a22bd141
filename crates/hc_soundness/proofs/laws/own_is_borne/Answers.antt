use Rattle.hc_soundness.proofs.Plans.{own-borne}
use Rattle.hc_soundness.proofs.laws.own_is_borne.Goals as goal

pub returns : goal.returns
returns c = record {
  law = λ v kept site name m k f key d rest live finds datum field is.
      own-borne c.told_is_borne.ensures.law v kept site name m k f key d rest live finds datum field is;
}
