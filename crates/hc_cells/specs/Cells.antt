-- Validity cells: each belongs to a prototype, and is valid while nothing on its chain has changed.
use Rattle.std.specs.Prelude.{◌≡◌, ℕ, zero, suc, ◌+◌, ◌*◌, ◌<◌, Bool, true, false, not, IsTrue, if◌then◌else◌, Option, Some, None, option_map, IsSomeAnd, List, ◌∷◌}
use Rattle.hc_layout.specs.declared.shape.Shape.{Shape}
use Rattle.hc_layout.specs.declared.words.CellWord.{CellWord}
use Rattle.hc_heap.specs.Writes.{Write, Trail, ObjectCell, Validity}
use Rattle.hc_heap.specs.Readings.{object_cell_in, validity_in}
use Rattle.hc_heap.specs.States.{View}
use Rattle.hc_cells.specs.Chains.{before, chain, passes}

-- a valid cell of a prototype
abbrev pub valid_cell : ℕ → CellWord
valid_cell p = record { invalid = false; object = p }

-- the cell, which is invalid now
abbrev pub invalid_cell : CellWord → CellWord
invalid_cell cell = record cell { invalid = true }

-- a cell is written, and nothing made it invalid
abbrev pub is_valid : Option CellWord → Bool
is_valid None = false
is_valid (Some cell) = not cell.invalid

-- the cell that a prototype's word names, where that is valid
abbrev pub if_valid : Trail → Option ℕ → Option ℕ
if_valid t None = None
if_valid t (Some c) = if is_valid (validity_in t c) then Some c else None

-- the valid cell that the word of a prototype names
abbrev pub named_cell : Trail → ℕ → Option ℕ
named_cell t p = if_valid t (object_cell_in t p)

-- a new record is a valid cell of a prototype, whose word names it
abbrev pub with_cell : View → ℕ → View
with_cell v p = record v {
  trail = ObjectCell p (Some v.used.cells) ∷ Validity v.used.cells (valid_cell p) ∷ v.trail;
  used = record v.used { cells = v.used.cells + 1 };
}

-- what holds of cells at every moment: each belongs to an object that is there, the cell that an object's word names belongs to it,
-- and a valid cell is the one that its prototype's word names, so a prototype has one valid cell at most
pub record AreCells (t : Trail) (used : Shape) : Type 0 where
  pub objects : (c : ℕ) (cell : CellWord) → validity_in t c ≡ Some cell → cell.object < used.objects
  pub own : (p c : ℕ) → object_cell_in t p ≡ Some c → IsSomeAnd (validity_in t c) (λ cell. cell.object ≡ p)
  pub named : (c p : ℕ) → validity_in t c ≡ Some (valid_cell p) → object_cell_in t p ≡ Some c

-- Changes

-- a cell after an object changed: invalid where its prototype's chain goes through the object, and else as it was
abbrev pub changed : Trail → List (Option ℕ) → ℕ → CellWord → CellWord
changed t protos o cell = if passes t protos cell.object o then invalid_cell cell else cell

-- the word of a cell after an object changed
abbrev pub cell_after : Trail → List (Option ℕ) → ℕ → ℕ → Option CellWord
cell_after t protos o c = option_map (changed t protos o) (validity_in t c)

-- a valid cell is made invalid, whose prototype's chain went through an object
pub record IsInvalidated (old : Trail) (protos : List (Option ℕ)) (o : ℕ) (t : Trail) (c : ℕ) (cell : CellWord) : Type 0 where
  pub was : validity_in t c ≡ Some (valid_cell cell.object)
  pub now : IsTrue cell.invalid
  pub through : IsTrue (passes old protos cell.object o)

-- writes that make such cells invalid, and no other
abbrev pub Invalidates : Trail → List (Option ℕ) → ℕ → Trail → Write → Type 0
Invalidates old protos o t (Validity c cell) = IsInvalidated old protos o t c cell
Invalidates old protos o t _ = ⊥

-- the loads for a cell: one, and where it is valid two more for each object of its chain before the one that changed
abbrev pub loads_of : Trail → List (Option ℕ) → ℕ → Option CellWord → ℕ
loads_of t protos o None = 1
loads_of t protos o (Some cell) = if cell.invalid then 1 else 1 + 2 * before (chain t protos cell.object) o

-- the loads for the cells below a number
abbrev pub loads_for : Trail → List (Option ℕ) → ℕ → ℕ → ℕ
loads_for t protos o zero = 0
loads_for t protos o (suc c) = loads_for t protos o c + loads_of t protos o (validity_in t c)
