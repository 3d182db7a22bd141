-- Objects that are watched: those on the chains of cells that may be valid.
use Rattle.std.specs.Prelude.{◌≡◌, ℕ, Bool, false, IsTrue, Option, Some, List, slice_index_or}
use Rattle.hc_heap.specs.Writes.{Trail}
use Rattle.hc_heap.specs.Readings.{validity_in}
use Rattle.hc_cells.specs.Chains.{passes}
use Rattle.hc_cells.specs.Cells.{valid_cell}

-- an object is marked
abbrev pub is_watched : List Bool → ℕ → Bool
is_watched marks o = slice_index_or marks o false

-- each object is marked that the chain of a valid cell goes through
abbrev pub AreWatched : Trail → List (Option ℕ) → List Bool → Type 0
AreWatched t protos marks = (c p o : ℕ) → validity_in t c ≡ Some (valid_cell p) → IsTrue (passes t protos p o) → IsTrue (is_watched marks o)

-- where one object changed since the marks were set, it is marked if the chain of a valid cell goes through it, and each object is
-- that any other valid cell's chain goes through
pub record AreWatchedBut (o : ℕ) (t : Trail) (protos : List (Option ℕ)) (marks : List Bool) : Type 0 where
  pub this : (c p : ℕ) → validity_in t c ≡ Some (valid_cell p) → IsTrue (passes t protos p o) → IsTrue (is_watched marks o)
  pub others : (c p x : ℕ) → validity_in t c ≡ Some (valid_cell p) → passes t protos p o ≡ false → IsTrue (passes t protos p x) → IsTrue (is_watched marks x)
