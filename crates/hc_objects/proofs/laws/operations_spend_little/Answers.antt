use Rattle.hc_objects.proofs.Lawful.{spent-came, spent-live}
use Rattle.hc_objects.proofs.laws.operations_spend_little.Goals as goal

pub returns-clause-one : goal.returns-clause-one
returns-clause-one g c a b did sound came =
    let it = c.operations_spend_little.ensures in
    spent-came g.P.Pace.went it.one it.moves it.none it.onward it.more a b did sound came

pub returns-clause-live : goal.returns-clause-live
returns-clause-live g c a b o sound made =
    let it = c.operations_spend_little.ensures in
    spent-live g.P.Pace.went it.one it.moves it.none it.onward it.more a b o sound made
