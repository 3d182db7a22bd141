-- Five slow objects, of a chain of four and one beside it, and their cells.
use Rattle.std.specs.Prelude.{◌≡◌, ℕ, Bool, Option, None, Some, List, [], ◌∷◌, length}
use Rattle.hc_heap.specs.Readings.{map_in}
use Rattle.hc_heap.specs.States.{View}
use Rattle.hc_cells.specs.Cells.{AreCells}
use Rattle.hc_cells.specs.Watched.{AreWatched}

abbrev pub protos : List (Option ℕ)
protos = None ∷ Some 0 ∷ Some 1 ∷ Some 2 ∷ Some 0 ∷ []

-- the objects are there, all slow, and their cells are sound
pub record IsReady (v : View) : Type 0 where
  pub cells : AreCells v.trail v.used
  pub slow : (o : ℕ) → map_in v.trail o ≡ None
  pub objects : v.used.objects ≡ 5

-- there are marks of the five objects, as their cells want them
pub record Watches (v : View) (marks : List Bool) : Type 0 where
  pub watched : AreWatched v.trail protos marks
  pub size : length marks ≡ 5
