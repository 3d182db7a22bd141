use Rattle.std.proofs.Common.{[], ◌∷◌}
use Rattle.hc_heap_tests.proofs.readers.look_twice.Goals as goal

pub returns-clause-looked : goal.returns-clause-looked
returns-clause-looked g c =
    g.met.L.Look.goes_on c.args.from.now c.look-a.new.self c.look-b.new.self ((c.args.first, c.look-a.result) ∷ []) ((c.args.second, c.look-b.result) ∷ []) c.look-a.ensures.looked c.look-b.ensures.looked
