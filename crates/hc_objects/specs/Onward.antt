-- What a plan that is right asks of all that is done after it, to stay so.
use Rattle.std.specs.Prelude.{◌≡◌}
use Rattle.hc_heap.specs.Kept.{GoesOn}
use Rattle.hc_modes.specs.Admitting.{ConstantsStay}
use Rattle.hc_modes.specs.State.{ObjectsState}

-- the shape stays, the trail is a lawful one that goes on, and constants stay
pub record HasGoneOn {P : Type 0} (a b : ObjectsState P) : Type 0 where
  pub shape : b.heap.view.shape ≡ a.heap.view.shape
  pub goes : GoesOn b.heap.view.shape a.heap.view.trail b.heap.view.trail
  pub constants : ConstantsStay a.heap.view.trail b.heap.view.trail
