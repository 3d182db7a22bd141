-- What becomes of validity cells.
use Rattle.std.specs.Prelude.{◌≡◌, ℕ}
use Rattle.hc_heap.specs.Writes.{Trail}
use Rattle.hc_heap.specs.Readings.{object_cell_in, validity_in}

-- the words of cells, and those by which prototypes name them, are as they were
pub record CellsStay (old new : Trail) : Type 0 where
  pub validity : (c : ℕ) → validity_in new c ≡ validity_in old c
  pub named : (o : ℕ) → object_cell_in new o ≡ object_cell_in old o
