use Rattle.hc_links.proofs.Keys.{same-keys}
use Rattle.hc_links.proofs.laws.same_keys_are_equal.Goals as goal

pub returns : goal.returns
returns c = record { law = λ a b. same-keys a b }
