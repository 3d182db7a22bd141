use Rattle.hc_update.proofs.outgrown.generalise_private.Goals as goal

pub of_own-requires-clause-few : goal.of_own-requires-clause-few
of_own-requires-clause-few g c = (c.gates_are_open.ensures.law c.args.h.now.view.shape c.args.h.now.view.trail c.args.map _ c.stands.ensures.heap.lawful c.requires.map).few
