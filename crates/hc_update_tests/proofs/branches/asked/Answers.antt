use Rattle.std.proofs.Common.{None}
use Rattle.hc_update_tests.proofs.Ended.{end-begins}
use Rattle.hc_update_tests.proofs.branches.asked.Goals as goal

pub branch-heap-requires-clause-end : goal.branch-heap-requires-clause-end
branch-heap-requires-clause-end c = end-begins c.root.new.h.view c.in-Ok.root None c.in-Ok.ensures.heap c.in-Ok.ensures.tree c.in-Ok.ensures.root

pub next-requires-clause-end : goal.next-requires-clause-end
next-requires-clause-end c =
    let it = c.in_ok-branch.ensures.made in
    end-begins c.branch-heap.new.heap.view c.in-Ok.root None it.end.heap it.end.tree (c.branch-heap.ensures.roots c.in-Ok.root c.in-Ok.ensures.root)
