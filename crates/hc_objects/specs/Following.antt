-- How cells are made to follow a change.
use Rattle.std.specs.Prelude.{◌≡◌, ℕ, Bool, Option, Some, None, List, slice_set}
use Rattle.hc_board.specs.Trail.{Access}
use Rattle.hc_layout.specs.declared.words.CellWord.{CellWord}
use Rattle.hc_heap.specs.Writes.{Trail}
use Rattle.hc_heap.specs.Readings.{object_cell_in, validity_in}
use Rattle.hc_cells.specs.Cells.{cell_after}
use Rattle.hc_cells.specs.Watched.{AreWatched, AreWatchedBut}
use Rattle.hc_modes.specs.State.{IsObjects, ObjectsState}
use Rattle.hc_modes.specs.Validity.{OnlyCells, protos_of, slow_proto}

-- the prototypes of slow objects, of which one is told anew
abbrev pub told_of : {P : Type 0} → ObjectsState P → List (Option ℕ) → ℕ → List (Option ℕ)
told_of s protos o = slice_set protos o (slow_proto s.kept o)

-- and one more, where it is named
abbrev pub told_also : {P : Type 0} → ObjectsState P → List (Option ℕ) → Option ℕ → List (Option ℕ)
told_also s protos (Some p) = told_of s protos p
told_also s protos None = protos

-- each object is marked that the chain of a valid cell goes through, but where one changed that is marked
abbrev pub WatchedBut : Option ℕ → Trail → List (Option ℕ) → List Bool → Type 0
WatchedBut (Some o) t protos marks = AreWatchedBut o t protos marks
WatchedBut None t protos marks = AreWatched t protos marks

-- the word of a cell after an object changed, if one did
abbrev pub cell_then : Trail → List (Option ℕ) → Option ℕ → ℕ → Option CellWord
cell_then t protos (Some o) c = cell_after t protos o c
cell_then t protos None c = validity_in t c

-- cells were made invalid whose chains go through an object that changed, if there is one, and nothing else was done
pub record IsInvalidatedAt {P : Type 0} (goes_with : P → List Access → List Access → P → Type 0) (a : ObjectsState P) (at : Option ℕ) (b : ObjectsState P) : Type 0 where
  pub only : OnlyCells goes_with a b
  pub sound : IsObjects b.heap.view b.kept b.of_null
  pub cells : (c : ℕ) → validity_in b.heap.view.trail c ≡ cell_then a.heap.view.trail (protos_of a) at c
  pub named : (o : ℕ) → object_cell_in b.heap.view.trail o ≡ object_cell_in a.heap.view.trail o
  pub used : b.heap.view.used ≡ a.heap.view.used

-- and then so for another one
pub record AreInvalidatedAt {P : Type 0} (goes_with : P → List Access → List Access → P → Type 0) (a : ObjectsState P) (here there : Option ℕ) (b : ObjectsState P) : Type 0 where
  pub mid : ObjectsState P
  pub first : IsInvalidatedAt goes_with a here mid
  pub second : IsInvalidatedAt goes_with mid there b
