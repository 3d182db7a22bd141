use Rattle.std.proofs.Common.{◌≡◌, Some}
use Rattle.hc_cells.specs.Cells.{named_cell}
use Rattle.hc_cells_tests.proofs.Ready.{ready-asked, slow-ends}
use Rattle.hc_cells_tests.proofs.chains.ask_watched.Goals as goal

pub cell_of-requires-clause-ends : goal.cell_of-requires-clause-ends
cell_of-requires-clause-ends c = slow-ends c.args.heap.now.view.trail c.requires.ready.slow

pub returns-clause-ready : goal.returns-clause-ready
returns-clause-ready c = ready-asked c.args.heap.now.view c.cell_of.new.h.view c.requires.ready (λ x. c.cell_of.result ≡ Some x) c.args.object (named_cell c.args.heap.now.view.trail c.args.object)
    c.cell_of.ensures.named c.cell_of.ensures.made c.cell_of.ensures.none c.cell_of.ensures.cells
