use Rattle.hc_objects.proofs.Lawful.{facts-kept}
use Rattle.hc_objects.proofs.laws.fields_stay_honest.Goals as goal

pub returns-clause-law : goal.returns-clause-law
returns-clause-law g c a b did sound came = facts-kept g.P.Pace.went c.constants_stay_on.ensures.law c.fields_stay_honest.ensures.law a b did sound came
