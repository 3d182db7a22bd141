-- An operation, and the moves before it, leave the words of cells as they were.
use Rattle.std.proofs.Common.{ℕ, List, [], ◌∷◌, sym, ap, ◌∙◌, subst, refl}
use Rattle.hc_board.specs.Trail.{Access}
use Rattle.hc_heap.specs.Writes.{Trail}
use Rattle.hc_heap.specs.Readings.{object_cell_in, validity_in}
use Rattle.hc_tree.specs.Growth.{marked}
use Rattle.hc_table.specs.Changes.{Did, Nothing, Moved, Created, Added, Wrote, Reconfigured, Removed, Linked, Locked, Restricted}
use Rattle.hc_modes.specs.Came.{AreMoves, Became, Came, Generalised, IsMove, IsStill, Left, Marked, Migrated, Move}
use Rattle.hc_modes.specs.Cells.{CellsStay}
use Rattle.hc_modes.specs.State.{ObjectsState}
use Rattle.hc_modes.proofs.Left.{marked-same}

pub cells-on : (a b c : Trail) → CellsStay a b → CellsStay b c → CellsStay a c
cells-on a b c x y = record { validity = λ k. y.validity k ∙ x.validity k; named = λ o. y.named o ∙ x.named o }

marked-cells : (t : Trail) (m : ℕ) → CellsStay t (marked t m)
marked-cells t m = record {
  validity = λ c. marked-same t m (λ (u : Trail). validity_in u c) (λ b. refl);
  named = λ o. marked-same t m (λ (u : Trail). object_cell_in u o) (λ b. refl);
}

module _ {P : Type 0} (went : P → List Access → List Access → P → Type 0) where
  still-cells : (a b : ObjectsState P) → IsStill a b → CellsStay a.heap.view.trail b.heap.view.trail
  still-cells a b still =
      let same = ap (λ (s : ObjectsState P). s.heap.view.trail) still.is in
      record { validity = λ c. ap (λ (t : Trail). validity_in t c) same; named = λ o. ap (λ (t : Trail). object_cell_in t o) same }

  move-cells : (a b : ObjectsState P) (move : Move) → IsMove went a move b → CellsStay a.heap.view.trail b.heap.view.trail
  move-cells a b (Marked o) h = subst (λ (t : Trail). CellsStay a.heap.view.trail t) (sym h.trail) (marked-cells a.heap.view.trail h.map)
  move-cells a b (Became p) h = h.how.marks.cells
  move-cells a b (Left o cause) h = h.marks.cells
  move-cells a b (Migrated o) h = h.replaced.marks.cells
  move-cells a b (Generalised o i held) h = h.replaced.marks.cells

  moves-cells : (a b : ObjectsState P) (moves : List Move) → AreMoves went a moves b → CellsStay a.heap.view.trail b.heap.view.trail
  moves-cells a b [] h = still-cells a b h
  moves-cells a b (move ∷ moves) h = cells-on a.heap.view.trail h.0.heap.view.trail b.heap.view.trail (move-cells a h.0 move h.1) (moves-cells h.0 b moves h.2)

  alone-cells : (a mid b : ObjectsState P) → IsStill a mid → CellsStay mid.heap.view.trail b.heap.view.trail → CellsStay a.heap.view.trail b.heap.view.trail
  alone-cells a mid b still cells = cells-on a.heap.view.trail mid.heap.view.trail b.heap.view.trail (still-cells a mid still) cells

  pub came-cells : (a b : ObjectsState P) (did : Did) → Came went a did b → CellsStay a.heap.view.trail b.heap.view.trail
  came-cells a b Nothing h = still-cells a b h
  came-cells a b Moved h = moves-cells a b h.moves h.are
  came-cells a b (Created proto) h = cells-on a.heap.view.trail h.mid.heap.view.trail b.heap.view.trail (moves-cells a h.mid _ h.moves) h.own.marks.marks.cells
  came-cells a b (Added o p) h = alone-cells a h.mid b h.moves h.own.marks.cells
  came-cells a b (Wrote o i held) h = alone-cells a h.mid b h.moves h.own.marks.cells
  came-cells a b (Reconfigured o i p) h = alone-cells a h.mid b h.moves h.own.marks.cells
  came-cells a b (Removed o i) h = alone-cells a h.mid b h.moves h.own.marks.cells
  came-cells a b (Linked o proto) h = cells-on a.heap.view.trail h.mid.heap.view.trail b.heap.view.trail (moves-cells a h.mid _ h.moves) h.own.marks.cells
  came-cells a b (Locked o) h = alone-cells a h.mid b h.moves h.own.marks.cells
  came-cells a b (Restricted o frozen) h = alone-cells a h.mid b h.moves h.own.marks.cells
