use Rattle.hc_facts.proofs.Constants.{constants-on}
use Rattle.hc_facts.proofs.laws.constants_stay_on.Goals as goal

pub returns : goal.returns
returns c = record {
  law = λ s old middle new first second a b.
      constants-on c.written_is_kept.ensures.law c.entries_are_kept.ensures.law c.set_is_kept.ensures.law c.stable_is_kept.ensures.law c.details_rise.ensures.law
      c.gates_are_open.ensures.law s old middle new first second a b;
}
