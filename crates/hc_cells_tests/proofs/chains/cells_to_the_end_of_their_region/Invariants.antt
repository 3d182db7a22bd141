use Rattle.hc_cells_tests.specs.Ready.{IsReady}
use Rattle.hc_cells_tests.proofs.chains.cells_to_the_end_of_their_region.Given as goal

abbrev pub invariant-loop-object : goal.invariant-loop-object
invariant-loop-object g l = IsReady l.heap.view
