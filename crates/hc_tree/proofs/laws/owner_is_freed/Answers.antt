use Rattle.hc_tree.proofs.Owners.{freed}
use Rattle.hc_tree.proofs.laws.owner_is_freed.Goals as goal

pub returns : goal.returns
returns c = record { law = freed c.same_keys_are_equal.ensures.law }
