use Rattle.hc_objects.proofs.Alone.{alone-calm, alone-map}
use Rattle.hc_objects.proofs.laws.cells_stand_alone.Goals as goal

pub returns-clause-maps : goal.returns-clause-maps
returns-clause-maps g c a b o only = alone-map g.P.Pace.went a b only o

pub returns-clause-calm : goal.returns-clause-calm
returns-clause-calm g c a b only calm = alone-calm g.P.Pace.went a b only calm
