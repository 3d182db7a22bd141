use Rattle.std.proofs.Common.{◌≡◌, ◌+◌, Some, ◌∷◌, ap, sym, ◌∙◌, subst}
use Rattle.hc_layout.specs.declared.shape.Region.TheVariants.{Cells}
use Rattle.hc_heap.specs.Writes.{ObjectCell, Validity}
use Rattle.hc_heap.specs.Lawful.{LawfulValidity}
use Rattle.hc_heap.specs.States.{View, HeapState, with_items, with_write}
use Rattle.hc_cells.specs.Cells.{AreCells, valid_cell, with_cell}
use Rattle.hc_cells.proofs.Made.{cells-made, new-lawful}
use Rattle.hc_cells.proofs.cells.new_cell.Goals as goal

pub set_validity-requires-clause-lawful : goal.set_validity-requires-clause-lawful
set_validity-requires-clause-lawful g c =
    let v = c.args.h.now.view in
    let o = c.args.object in
    let n = c.fresh-cell.result in
    let begun : c.fresh-cell.new.self.view ≡ record v { used = with_items Cells (n + 1) v.used } =
    ap (λ (s : HeapState g.row.P.Denot). s.view) c.fresh-cell.ensures.new in
    let number : n ≡ v.used.cells = c.fresh-cell.ensures.first in
    let lawful = subst (λ k. LawfulValidity v.shape v.trail k (valid_cell o)) (sym number) (new-lawful v c.unused_says_nothing.ensures.law c.stands.ensures.heap o c.requires.handed) in
    subst (λ (w : View). LawfulValidity w.shape w.trail n (valid_cell o)) (sym begun) lawful

pub returns-clause-cells : goal.returns-clause-cells
returns-clause-cells g c =
    let v = c.args.h.now.view in
    let o = c.args.object in
    let n = c.fresh-cell.result in
    let begun : c.fresh-cell.new.self.view ≡ record v { used = with_items Cells (n + 1) v.used } =
    ap (λ (s : HeapState g.row.P.Denot). s.view) c.fresh-cell.ensures.new in
    let number : n ≡ v.used.cells = c.fresh-cell.ensures.first in
    let end : c.set_object_cell.new.self.view ≡ with_cell v o =
    c.set_object_cell.ensures.view
    ∙ ap (λ (w : View). with_write w (ObjectCell o (Some n))) (c.set_validity.ensures.view ∙ ap (λ (w : View). with_write w (Validity n (valid_cell o))) begun)
    ∙ ap (λ k. record v { trail = ObjectCell o (Some k) ∷ Validity k (valid_cell o) ∷ v.trail; used = record v.used { cells = k + 1 } }) number in
    subst (λ (w : View). AreCells w.trail w.used) (sym end) (cells-made v c.unused_says_nothing.ensures.law c.stands.ensures.heap o c.requires.handed c.requires.cells c.requires.needed)

pub returns-clause-went : goal.returns-clause-went
returns-clause-went g c =
    let h = c.args.h.now in
    let f = c.fresh-cell.new.self in
    let d = c.set_validity.new.self in
    let e = c.set_object_cell.new.self in
    let after : g.P.Pace.went f.pace f.desk.trail e.desk.trail e.pace =
    g.met.P.Pace.goes_on f.pace d.pace e.pace f.desk.trail d.desk.trail e.desk.trail c.set_validity.ensures.went c.set_object_cell.ensures.went in
    subst (λ (s : HeapState g.row.P.Denot). g.P.Pace.went s.pace s.desk.trail e.desk.trail e.pace) c.fresh-cell.ensures.new after
