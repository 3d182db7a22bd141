use Rattle.hc_tree.proofs.Owners.{roots}
use Rattle.hc_tree.proofs.laws.roots_stand.Goals as goal

pub returns : goal.returns
returns c = record { law = λ s t of_null m n p lawful tree are gate proto. roots c.maps_are_kept.ensures.law s t of_null n m p lawful tree are gate proto }
