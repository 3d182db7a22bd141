use Rattle.std.proofs.Common.{arith}
use Rattle.hc_deps.specs.Looks.{looks-one, looks-then}
use Rattle.hc_deps.proofs.words.slot_word.Goals as goal

pub returns-clause-looks : goal.returns-clause-looks
returns-clause-looks g c = looks-then g.met.L.Look.goes_on (looks-one c.store.ensures.peeked) (looks-one c.slot.ensures.peeked) (omega arith) (omega arith)
