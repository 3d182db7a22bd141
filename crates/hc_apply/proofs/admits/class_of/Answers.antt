use Rattle.std.proofs.Common.{arith}
use Rattle.hc_deps.specs.Looks.{looks-one, looks-then}
use Rattle.hc_apply.proofs.admits.class_of.Goals as goal

pub returns-clause-looks : goal.returns-clause-looks
returns-clause-looks g c = looks-then g.met.L.Look.goes_on c.map_of.ensures.looks (looks-one c.bits-bits.ensures.peeked) (omega arith) (omega arith)
