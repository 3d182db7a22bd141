use Rattle.hc_modes.proofs.GoingOn.{writes-on}
use Rattle.hc_modes.proofs.laws.writes_go_on.Goals as goal

pub returns : goal.returns
returns c = record {
  law = λ v w d e was now heap shape goes. writes-on c.positions_are_stores.ensures.law c.positions_go_on.ensures.law c.stores_are_writes.ensures.law v w d e was now heap shape goes;
}
