-- What becomes of validity cells: each is valid as long as nothing changes on the chain of its prototype.
use Rattle.std.specs.Prelude.{◌≡◌, ◌⊎◌, ◌↔◌, ℕ, false, IsTrue, Option, Some, None, IsSome, IsSomeAnd, List}
use Rattle.hc_board.specs.Trail.{Access}
use Rattle.hc_layout.specs.declared.words.CellWord.{CellWord}
use Rattle.hc_heap.specs.Writes.{Write, Trail, ObjectCell, Validity}
use Rattle.hc_heap.specs.Readings.{map_in, object_cell_in, validity_in}
use Rattle.hc_heap.specs.Kept.{Adds}
use Rattle.hc_cells.specs.Chains.{passes}
use Rattle.hc_table.specs.Changes.{Moved}
use Rattle.hc_table.specs.World.{object, props_at}
use Rattle.hc_slots.specs.Listed.{listed}
use Rattle.hc_slots.specs.Meaning.{Dictionary}
use Rattle.hc_modes.specs.Came.{Steps, world_of}
use Rattle.hc_modes.specs.Meaning.{kept_of}
use Rattle.hc_modes.specs.State.{ObjectsState}

-- Chains

-- the prototype of a slow object, as its dictionary says it, and none for a fast one
abbrev pub proto_kept : Option Dictionary → Option ℕ
proto_kept (Some d) = d.proto
proto_kept None = None

abbrev pub slow_proto : List (Option Dictionary) → ℕ → Option ℕ
slow_proto kept o = proto_kept (kept_of kept o)

-- this of each object that there may be
abbrev pub protos_in : ℕ → List (Option Dictionary) → List (Option ℕ)
protos_in n kept = listed (slow_proto kept) n

abbrev pub protos_of : {P : Type 0} → ObjectsState P → List (Option ℕ)
protos_of s = protos_in s.heap.view.shape.objects s.kept

-- the chain of a prototype goes through an object
abbrev pub goes_through : {P : Type 0} → ObjectsState P → ℕ → ℕ → Type 0
goes_through s p o = IsTrue (passes s.heap.view.trail (protos_of s) p o)

-- Writes

-- writes to the words of cells, and to those by which prototypes name them, and no other
abbrev pub WritesCells : Trail → Write → Type 0
WritesCells t (ObjectCell p c) = Unit {0}
WritesCells t (Validity c v) = Unit {0}
WritesCells t _ = ⊥

-- cells were written, and nothing else was done
pub record OnlyCells {P : Type 0} (goes_with : P → List Access → List Access → P → Type 0) (a b : ObjectsState P) : Type 0 where
  pub steps : Steps goes_with a Moved b
  pub writes : Adds WritesCells a.heap.view.trail b.heap.view.trail
  pub used : b.heap.view.used ≡ record a.heap.view.used { cells = b.heap.view.used.cells }
  pub kept : b.kept ≡ a.kept
  pub null : b.of_null ≡ a.of_null

-- Changes

-- what cells rest on at an object is as it was: its map word, its prototype, and its properties where it is slow
pub record StaysPut {P : Type 0} (a b : ObjectsState P) (o : ℕ) : Type 0 where
  pub map : map_in b.heap.view.trail o ≡ map_in a.heap.view.trail o
  pub proto : (object (world_of b) o).proto ≡ (object (world_of a) o).proto
  pub props : IsSome (kept_of a.kept o) → props_at (world_of b) o ≡ props_at (world_of a) o

-- something changed on the chain of a prototype, as it was before
pub record ChangesOn {P : Type 0} (a b : ObjectsState P) (p : ℕ) : Type 0 where
  pub object : ℕ
  pub through : goes_through a p object
  pub changed : StaysPut a b object → ⊥

-- a cell afterwards: it is of the same prototype, and invalid exactly where it was or something changed on its chain; where it is
-- valid, each object of its chain stays put
pub record CellFollows {P : Type 0} (a b : ObjectsState P) (was now : CellWord) : Type 0 where
  pub object : now.object ≡ was.object
  pub invalid : IsTrue now.invalid ↔ (IsTrue was.invalid ⊎ ChangesOn a b was.object)
  pub put : now.invalid ≡ false → (q : ℕ) → goes_through a was.object q → StaysPut a b q

-- all cells afterwards; none was made, and prototypes name those that they named
pub record CellsFollow {P : Type 0} (a b : ObjectsState P) : Type 0 where
  pub cells : (c : ℕ) (was : CellWord) → validity_in a.heap.view.trail c ≡ Some was → IsSomeAnd (validity_in b.heap.view.trail c) (λ now. CellFollows a b was now)
  pub none : (c : ℕ) → validity_in a.heap.view.trail c ≡ None → validity_in b.heap.view.trail c ≡ None
  pub named : (o : ℕ) → object_cell_in b.heap.view.trail o ≡ object_cell_in a.heap.view.trail o
  pub used : b.heap.view.used.cells ≡ a.heap.view.used.cells
