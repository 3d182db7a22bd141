use Rattle.hc_modes.proofs.Spending.{spent-more, spent-moves, spent-none, spent-on, spent-one}
use Rattle.hc_modes.proofs.laws.operations_spend_little.Goals as goal

pub returns-clause-one : goal.returns-clause-one
returns-clause-one g c a b did objects came = spent-one c.gates_are_open.ensures.law g.P.Pace.went a b did objects came

pub returns-clause-moves : goal.returns-clause-moves
returns-clause-moves g c a b objects moves = spent-moves c.gates_are_open.ensures.law g.P.Pace.went a b objects moves

pub returns-clause-none : goal.returns-clause-none
returns-clause-none g c n a = spent-none n a

pub returns-clause-onward : goal.returns-clause-onward
returns-clause-onward g c m n a b e first second = spent-on m n a b e first second

pub returns-clause-more : goal.returns-clause-more
returns-clause-more g c m n a b le it = spent-more m n a b le it
