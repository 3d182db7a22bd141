use Rattle.hc_soundness.proofs.Reading.{readable}
use Rattle.hc_soundness.proofs.laws.told_is_readable.Goals as goal

pub returns : goal.returns
returns c = record {
  law = λ v kept op name case o rest told has.
      readable c.forms_are_kept.ensures.law c.unused_says_nothing.ensures.law v kept rest name case.map case.chain o has op case.way told.way;
}
