use Rattle.hc_plan.proofs.Parts.{deps-parts}
use Rattle.hc_plan.proofs.laws.deps_are_of_cases.Goals as goal

pub returns : goal.returns
returns c = record { law = deps-parts }
