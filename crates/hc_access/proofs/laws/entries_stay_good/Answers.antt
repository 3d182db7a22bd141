use Rattle.hc_access.proofs.Going.{came-good}
use Rattle.hc_access.proofs.laws.entries_stay_good.Goals as goal

pub returns-clause-law : goal.returns-clause-law
returns-clause-law g c a b did sites sa sb cells came good =
    came-good g.P.Pace.went c.gates_are_open.ensures.law c.unused_says_nothing.ensures.law c.chains_are_told.ensures.protos c.maps_are_kept.ensures.law c.fields_stay_honest.ensures.law c.valid_cells_say.ensures.law a b did sites sa sb cells came good
