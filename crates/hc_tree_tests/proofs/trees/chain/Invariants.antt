use Rattle.hc_tree_tests.proofs.Chained.{IsChainEnd}
use Rattle.hc_tree_tests.proofs.trees.chain.Given as goal

abbrev pub invariant-loop-n : goal.invariant-loop-n
invariant-loop-n l = IsChainEnd l.heap.view l.map l.n
