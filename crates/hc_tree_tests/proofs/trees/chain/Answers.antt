use Rattle.std.proofs.Common.{None}
use Rattle.hc_tree_tests.proofs.Chained.{chain-begins, chain-goes}
use Rattle.hc_tree_tests.proofs.trees.chain.Goals as goal

pub loop-n-init : goal.loop-n-init
loop-n-init c = chain-begins c.root.new.h.view c.in-Ok.map None c.in-Ok.ensures.heap c.in-Ok.ensures.tree c.in-Ok.ensures.root

pub loop-n-preserved : goal.loop-n-preserved
loop-n-preserved c =
    let made = c.in-Ok-child_or_make.ensures in
    chain-goes c.maps_are_kept.ensures.law c.loop-n.heap.view c.child_or_make.new.h.view c.loop-n.map c.loop-n.n c.in-Ok-child_or_make.child c.data.result
    c.child_or_make.ensures.shape c.child_or_make.ensures.writes c.child_or_make.ensures.heap c.child_or_make.ensures.tree c.loop-n.invariant made.child c.data.ensures.name made.live
