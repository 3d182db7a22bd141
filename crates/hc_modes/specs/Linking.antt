-- How an object with a shared map gets another prototype.
use Rattle.std.specs.Prelude.{◌≡◌, ◌≢◌, ℕ, false, IsTrue, Option, List, ◌++◌}
use Rattle.hc_heap.specs.Writes.{Write}
use Rattle.hc_heap.specs.Readings.{bits_in, root_in}
use Rattle.hc_heap.specs.States.{View}
use Rattle.hc_tree.specs.Dying.{HaveDied}
use Rattle.hc_tree.specs.Growth.{marked}
pub use Rattle.hc_tree.specs.Walking.{shared_need}
use Rattle.hc_update.specs.Renewing.{IsDoomed}
use Rattle.hc_update.specs.Retargeting.{rooted}
use Rattle.hc_modes.specs.State.{AreRoots}
use Rattle.hc_modes.specs.Changes.{ChangedBut}
use Rattle.hc_modes.specs.Modes.{IsWithin}
use Rattle.hc_modes.specs.Resettled.{IsResettled, marked_view}
use Rattle.hc_modes.specs.Rest.{IsLinkedOrDead}

-- an object came from a shared map with n entries to another one, with the same keys and another prototype, whose fields admit
-- what the first map's did: up to the end of the live maps by those keys fields were joined in place, and from the first place on
-- where that can't be, maps died, and others were made
pub record IsRelinked (old new : View) (null then_null : Option ℕ) (o m n : ℕ) (proto : Option ℕ) : Type 0 where
  pub map : ℕ
  pub root : ℕ
  pub end : ℕ
  pub count : ℕ
  pub stop : ℕ
  pub changed : ChangedBut (IsDoomed (rooted (marked_view old m) null proto root) end count stop) old new o
  pub roots : AreRoots new.trail then_null
  pub needs : IsWithin (shared_need old.trail n proto null) old.used new.used
  pub objects : new.used.objects ≡ old.used.objects
  pub slots : new.used.slots ≡ old.used.slots
  pub resettled : IsResettled old.trail new.trail o m map n false proto
  pub unstable : IsTrue (bits_in new.trail m).unstable
  pub protos : (q : ℕ) → (root_in new.trail q).is_proto ≡ (root_in old.trail q).is_proto
  pub more : List Write
  pub after : new.trail ≡ more ++ marked old.trail m
  pub dead : HaveDied (IsDoomed (rooted (marked_view old m) null proto root) end count stop) old.trail new.trail
  pub marks : (x : ℕ) → x ≢ m → (bits_in old.trail x).unstable ≡ false → IsTrue (bits_in new.trail x).unstable → IsLinkedOrDead old.trail new.trail x
