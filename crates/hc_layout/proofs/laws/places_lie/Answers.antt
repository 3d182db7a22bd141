use Rattle.hc_layout.proofs.Places.{place_lies}
use Rattle.hc_layout.proofs.laws.places_lie.Goals as goal

pub returns : goal.returns
returns c = record { law = place_lies }
