use Rattle.std.proofs.Common.{◌≡◌, Some, ap, sym, ◌∙◌, subst}
use Rattle.hc_heap.specs.Readings.{validity_in}
use Rattle.hc_heap.specs.States.{View, HeapState}
use Rattle.hc_cells.specs.Cells.{named_cell, valid_cell}
use Rattle.hc_cells.proofs.Made.{named-valid}
use Rattle.hc_cells.proofs.cells.cell_of.Goals as goal

pub returns-in-Some-clause-valid : goal.returns-in-Some-clause-valid
returns-in-Some-clause-valid g c =
    let v = c.args.h.now.view in
    let o = c.args.object in
    let same : c.named_cell.new.h.view ≡ v = ap (λ (s : HeapState g.row.P.Denot). s.view) c.named_cell.ensures.same in
    let named : named_cell v.trail o ≡ Some c.in-Some.cell = sym c.named_cell.ensures.named ∙ c.in-Some.is in
    subst (λ (w : View). validity_in w.trail c.in-Some.cell ≡ Some (valid_cell o)) (sym same) (named-valid v.trail v.used o c.in-Some.cell c.requires.cells named)
