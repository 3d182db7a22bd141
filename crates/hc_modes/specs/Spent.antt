-- What operations hand out, however many they are, and which objects they leave slow for want of room.
use Rattle.std.specs.Prelude.{◌≡◌, ◌⊎◌, ℕ, zero, suc, ◌+◌, Some}
use Rattle.hc_layout.specs.declared.capacity.TheConstants.{MAX_FAST}
use Rattle.hc_value.specs.declared.reply.Cause.TheVariants.{Space}
use Rattle.hc_heap.specs.States.{View}
use Rattle.hc_tree.specs.declared.need.Need.{Need}
use Rattle.hc_tree.specs.Needs.{HasSpace, no_need}
use Rattle.hc_modes.specs.Meaning.{cause_in}
use Rattle.hc_modes.specs.Modes.{IsWithin, arrays_upto, both}
use Rattle.hc_modes.specs.State.{ObjectsState}

-- the greatest number of each region's items that is needed at once: a root and a map for each property that an object may have,
-- their arrays, a field and a link for each, and the slots of one object
abbrev pub greatest_need : Need
greatest_need = record { maps = MAX_FAST + 1; entries = arrays_upto MAX_FAST; fields = MAX_FAST; links = MAX_FAST; slots = MAX_FAST }

-- a need n times
abbrev pub times : ℕ → Need → Need
times zero need = no_need
times (suc n) need = both (times n need) need

-- some region has no room for what may be needed at once
abbrev pub IsNearlyFull : View → Type 0
IsNearlyFull v = HasSpace v greatest_need → ⊥

-- at most n steps lead from a state to a later one, where a move is one, and an operation two, with the moves before it: no more
-- items were handed out than they may need, and an object is slow for want of room only where it was before, or some region is
-- nearly full now
pub record IsSpent {P : Type 0} (n : ℕ) (a b : ObjectsState P) : Type 0 where
  pub within : IsWithin (times n greatest_need) a.heap.view.used b.heap.view.used
  pub shape : b.heap.view.shape ≡ a.heap.view.shape
  pub space : (o : ℕ) → cause_in b.kept o ≡ Some Space → (cause_in a.kept o ≡ Some Space) ⊎ IsNearlyFull b.heap.view
