use Rattle.hc_tree.proofs.Owners.{one-live}
use Rattle.hc_tree.proofs.laws.one_is_live.Goals as goal

pub returns : goal.returns
returns c = record { law = one-live c.same_keys_are_equal.ensures.law }
