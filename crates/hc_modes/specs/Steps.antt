-- What holds of each step from one state of objects to a later one.
use Rattle.std.specs.Prelude.{◌≡◌, ◌≤◌, ℕ, List}
use Rattle.hc_board.specs.Trail.{Access}
use Rattle.hc_heap.specs.Readings.{root_in}
use Rattle.hc_heap.specs.States.{Goes}
use Rattle.hc_heap.specs.Writes.{Trail}
use Rattle.hc_table.specs.World.{World}
use Rattle.hc_table.specs.Changes.{Did, after}
use Rattle.hc_modes.specs.Admitting.{FactsStay}
use Rattle.hc_modes.specs.Meaning.{world}
use Rattle.hc_modes.specs.State.{ObjectsState}

-- the objects, as property tables
abbrev pub world_of : {P : Type 0} → ObjectsState P → World
world_of s = world s.heap.view.trail s.kept

-- nothing was done: all is as it was, but for loads
pub record IsStill {P : Type 0} (a b : ObjectsState P) : Type 0 where
  pub is : b ≡ record a { heap = record a.heap { desk = record a.heap.desk { loads = b.heap.desk.loads } } }
  pub loads : a.heap.desk.loads ≤ b.heap.desk.loads

-- something was done: the board and the shape stay, the trail and the met entries go on, the pace went along, and what fields
-- say stays true
pub record Steps {P : Type 0} (goes_with : P → List Access → List Access → P → Type 0) (a : ObjectsState P) (did : Did) (b : ObjectsState P) : Type 0 where
  pub world : world_of b ≡ after did (world_of a)
  pub shape : b.heap.view.shape ≡ a.heap.view.shape
  pub goes : Goes a.heap.desk b.heap.desk
  pub went : goes_with a.heap.pace a.heap.desk.trail b.heap.desk.trail b.heap.pace
  pub keeps : FactsStay a.heap.view.shape a.heap.view.trail b.heap.view.trail

-- each object is or was a prototype exactly where it was before
abbrev pub ProtosStay : Trail → Trail → Type 0
ProtosStay old new = (q : ℕ) → (root_in new q).is_proto ≡ (root_in old q).is_proto
