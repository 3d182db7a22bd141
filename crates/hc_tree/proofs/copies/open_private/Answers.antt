use Rattle.std.proofs.Common.{sym, subst}
use Rattle.hc_heap.specs.States.{View, IsHeap}
use Rattle.hc_tree.specs.Tree.{IsTree}
use Rattle.hc_tree.proofs.Copied.{private-gate, private-tree}
use Rattle.hc_tree.proofs.Whole.{whole-entries}
use Rattle.hc_tree.proofs.copies.open_private.Goals as goal

pub set_gate-requires-clause-lawful : goal.set_gate-requires-clause-lawful
set_gate-requires-clause-lawful g c =
    let v = c.args.h.now.view in
    private-gate v.shape v.trail c.args.map c.args.n c.requires.closed c.requires.few (whole-entries v.trail c.args.map c.args.n c.requires.whole)

pub returns-clause-tree : goal.returns-clause-tree
returns-clause-tree g c =
    let v = c.args.h.now.view in
    let h = c.requires.whole in
    let after = subst IsHeap c.set_gate.ensures.view c.set_gate.ensures.heap in
    subst (λ (w : View). IsTree w.trail) (sym c.set_gate.ensures.view)
    (private-tree c.maps_are_kept.ensures.law v.shape v.trail c.args.map c.args.n after.lawful c.requires.closed h.distinct h.proper h.tagged c.requires.placed c.requires.array c.requires.tree)
