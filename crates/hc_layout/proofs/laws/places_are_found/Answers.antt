use Rattle.hc_layout.proofs.Places.{index_is}
use Rattle.hc_layout.proofs.laws.places_are_found.Goals as goal

pub returns : goal.returns
returns c = record { law = index_is }
