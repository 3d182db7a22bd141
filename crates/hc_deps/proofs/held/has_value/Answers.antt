use Rattle.std.proofs.Common.{arith}
use Rattle.hc_deps.specs.Looks.{looks-then}
use Rattle.hc_deps.proofs.held.has_value.Goals as goal

pub returns-in-Some-clause-looks : goal.returns-in-Some-clause-looks
returns-in-Some-clause-looks g c = looks-then g.met.L.Look.goes_on c.map_of.ensures.looks c.slot_word.ensures.looks (omega arith) (omega arith)

pub returns-in-None-clause-looks : goal.returns-in-None-clause-looks
returns-in-None-clause-looks g c = looks-then g.met.L.Look.goes_on c.map_of.ensures.looks c.slot_word.ensures.looks (omega arith) (omega arith)
