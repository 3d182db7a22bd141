-- What holds at every moment of objects whose validity cells follow their changes.
use Rattle.std.specs.Prelude.{◌≡◌, ℕ, Bool, Option, List, length}
use Rattle.hc_cells.specs.Cells.{AreCells}
use Rattle.hc_cells.specs.Watched.{AreWatched}
use Rattle.hc_heap.specs.Writes.{Trail}
use Rattle.hc_modes.specs.Admitting.{IsHonest}
use Rattle.hc_modes.specs.Rest.{AreCalm}
use Rattle.hc_modes.specs.State.{IsObjects, ObjectsState}
use Rattle.hc_modes.specs.Validity.{protos_of}

-- what fields say is true of the values of objects, and no map is unstable that a prototype has
pub record IsFaithful (t : Trail) : Type 0 where
  pub honest : IsHonest t
  pub calm : AreCalm t

-- the objects are sound, and so are the cells
pub record IsStanding {P : Type 0} (s : ObjectsState P) : Type 0 where
  pub objects : IsObjects s.heap.view s.kept s.of_null
  pub cells : AreCells s.heap.view.trail s.heap.view.used

-- the cells are sound, the list has for each object that is slow its prototype, each object is marked that the chain of a valid cell
-- goes through, and fields and prototypes are as they say
pub record IsWatching {P : Type 0} (s : ObjectsState P) (protos : List (Option ℕ)) (marks : List Bool) : Type 0 where
  pub cells : AreCells s.heap.view.trail s.heap.view.used
  pub told : protos ≡ protos_of s
  pub watched : AreWatched s.heap.view.trail protos marks
  pub size : length marks ≡ s.heap.view.shape.objects
  pub faithful : IsFaithful s.heap.view.trail
