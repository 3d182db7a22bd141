use Rattle.hc_objects.proofs.Lawful.{calm-kept}
use Rattle.hc_objects.proofs.laws.prototypes_stay_calm.Goals as goal

pub returns : goal.returns
returns g c = record { law = λ a b did sound_a sound_b came calm. calm-kept g.P.Pace.went c.prototypes_stay_calm.ensures.law a b did sound_a sound_b came calm }
