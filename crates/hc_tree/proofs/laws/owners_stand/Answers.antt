use Rattle.hc_tree.proofs.Owners.{owners}
use Rattle.hc_tree.proofs.laws.owners_stand.Goals as goal

pub returns : goal.returns
returns c = record { law = λ s t m n i lawful tree gate lt. owners c.maps_are_kept.ensures.law s t n m i lawful tree gate lt }
