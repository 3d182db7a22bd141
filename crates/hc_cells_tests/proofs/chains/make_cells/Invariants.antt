use Rattle.hc_cells_tests.specs.Ready.{IsReady}
use Rattle.hc_cells_tests.proofs.chains.make_cells.Given as goal

abbrev pub invariant-loop-object : goal.invariant-loop-object
invariant-loop-object l = IsReady l.heap.view
