use Rattle.hc_cells_tests.specs.Ready.{protos}
use Rattle.hc_cells_tests.proofs.Ready.{ready-changed, slow-ends}
use Rattle.hc_cells_tests.proofs.chains.change_watched.Goals as goal

pub invalidate-requires-clause-ends : goal.invalidate-requires-clause-ends
invalidate-requires-clause-ends c = slow-ends c.args.heap.now.view.trail c.requires.ready.slow

pub invalidate-requires-clause-watched : goal.invalidate-requires-clause-watched
invalidate-requires-clause-watched c = record {
  this = λ x p e h. c.requires.watches.watched x p c.args.object e h;
  others = λ x p q e missed h. c.requires.watches.watched x p q e h;
}

pub returns-clause-ready : goal.returns-clause-ready
returns-clause-ready c = ready-changed c.args.heap.now.view c.invalidate.new.h.view c.requires.ready protos c.args.object
    c.invalidate.ensures.view c.invalidate.ensures.writes c.invalidate.ensures.cells
