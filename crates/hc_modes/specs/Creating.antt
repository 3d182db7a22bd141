-- How an object without properties is made: slow at first, and fast where there is room for the root of its prototype.
use Rattle.std.specs.Prelude.{◌≡◌, ℕ, ◌+◌, Option, Some, None, List, length}
use Rattle.hc_board.specs.Trail.{Access}
use Rattle.hc_value.specs.declared.reply.Cause.TheVariants.{Space}
use Rattle.hc_heap.specs.Readings.{detail_in, map_in, root_in}
use Rattle.hc_tree.specs.Growth.{root_of, root_need}
use Rattle.hc_tree.specs.Needs.{HasSpace, with_need}
use Rattle.hc_table.specs.Changes.{Created, Moved}
use Rattle.hc_table.specs.World.{new_object, object}
use Rattle.hc_modes.specs.Came.{Steps, world_of}
use Rattle.hc_modes.specs.Changes.{KeptBut}
use Rattle.hc_modes.specs.Meaning.{cause_in}
use Rattle.hc_modes.specs.Modes.{StaysFast, if_fast}
use Rattle.hc_modes.specs.Rest.{Marks}
use Rattle.hc_modes.specs.State.{ObjectsState}

-- a slow object was made
pub record IsBegun {P : Type 0} (goes_with : P → List Access → List Access → P → Type 0) (a : ObjectsState P) (proto : Option ℕ) (o : ℕ) (b : ObjectsState P) : Type 0 where
  pub number : o ≡ length a.kept
  pub steps : Steps goes_with a (Created proto) b
  pub view : b.heap.view ≡ record a.heap.view { used = record a.heap.view.used { objects = o + 1 } }
  pub value : object (world_of b) o ≡ new_object proto
  pub cause : cause_in b.kept o ≡ Some Space
  pub others : KeptBut o a.kept b.kept
  pub null : b.of_null ≡ a.of_null

-- a new object is fast now exactly where there is room for the root of its prototype
pub record IsEntered {P : Type 0} (goes_with : P → List Access → List Access → P → Type 0) (a : ObjectsState P) (o : ℕ) (proto : Option ℕ) (b : ObjectsState P) : Type 0 where
  pub steps : Steps goes_with a Moved b
  pub mode : StaysFast (HasSpace a.heap.view (root_need (root_of a.heap.view.trail proto a.of_null))) (cause_in b.kept o)
  pub used : b.heap.view.used ≡ with_need (if_fast (cause_in b.kept o) (root_need (root_of a.heap.view.trail proto a.of_null))) a.heap.view.used
  pub protos : (q : ℕ) → (root_in b.heap.view.trail q).is_proto ≡ (root_in a.heap.view.trail q).is_proto
  pub others : KeptBut o a.kept b.kept
  pub none : map_in a.heap.view.trail o ≡ None
  pub marks : Marks a.heap.view.trail b.heap.view.trail o
  pub details : (f : ℕ) → detail_in b.heap.view.trail f ≡ detail_in a.heap.view.trail f
