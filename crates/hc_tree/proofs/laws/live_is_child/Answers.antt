use Rattle.hc_tree.proofs.Opened.{live-child}
use Rattle.hc_tree.proofs.laws.live_is_child.Goals as goal

pub returns : goal.returns
returns c = record { law = λ t m x g key tree gate live. live-child c.same_keys_are_equal.ensures.law t m g key x tree gate live }
