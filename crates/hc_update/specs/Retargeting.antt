-- The live map in place of another one that has another prototype, whose root is found or made.
use Rattle.std.specs.Prelude.{◌≡◌, ◌≢◌, ◌⊎◌, ℕ, ◌<◌, false, IsTrue, Option, []}
use Rattle.hc_heap.specs.Writes.{Trail}
use Rattle.hc_heap.specs.Readings.{bits_in}
use Rattle.hc_heap.specs.Kept.{Adds}
use Rattle.hc_heap.specs.States.{View, IsHeap}
use Rattle.hc_links.specs.Chains.{links_in}
use Rattle.hc_tree.specs.declared.need.Need.{Need}
use Rattle.hc_tree.specs.Tree.{IsTree}
use Rattle.hc_tree.specs.Needs.{IsWithin}
use Rattle.hc_tree.specs.Growth.{root_of}
use Rattle.hc_tree.specs.Details.{DetailsAre, Reshapes, detail_at}
use Rattle.hc_tree.specs.Dying.{IsDead}
use Rattle.hc_tree.specs.Walking.{AreRoots, IsLike, IsLiveEnd, shared_need, with_root_for}
use Rattle.hc_update.specs.Renewing.{AdmitMore, AreDead, AreShared, IsDoomed}
use Rattle.hc_update.specs.Updating.{IsStop, UpdateGets, updated_at}

-- the trail after the root of a prototype was made, where there was none
abbrev pub rooted : View → Option ℕ → Option ℕ → ℕ → Trail
rooted v null proto root = with_root_for (root_of v.trail proto null) v.trail proto root

-- from a root, after which the trail is t, a map with n entries was updated: a live map stands in its place, which has the root's
-- prototype
pub record IsFoundFrom (t : Trail) (old new : View) (then_null : Option ℕ) (root m c n : ℕ) (proto : Option ℕ) (need : Need) : Type 0 where
  pub end : ℕ
  pub count : ℕ
  pub stop : ℕ
  pub ended : IsLiveEnd t root m n end count
  pub stopped : IsStop t end m count stop
  pub writes : Adds (Reshapes old.used (IsDoomed t end count stop) (UpdateGets t end m count stop n old.used.fields)) old.trail new.trail
  pub details : DetailsAre (UpdateGets t end m count stop n old.used.fields) old.trail new.trail
  pub dead : AreDead t new.trail end count stop
  pub linked : (x : ℕ) → (bits_in old.trail x).unstable ≡ false → IsTrue (bits_in new.trail x).unstable → (links_in new.trail x ≢ []) ⊎ IsDead (IsDoomed t end count stop) new.trail x
  pub spares : AreShared t new.trail end count stop
  pub roots : AreRoots new.trail then_null
  pub needs : IsWithin need old.used new.used
  pub objects : new.used.objects ≡ old.used.objects
  pub slots : new.used.slots ≡ old.used.slots
  pub shape : new.shape ≡ old.shape
  pub like : IsLike new.trail c m n proto
  pub live : (bits_in new.trail c).deprecated ≡ false
  pub made : (k : ℕ) → k < n → detail_at new.trail c k ≡ updated_at t end m count k
  pub admits : AdmitMore old.trail new.trail m c n
  pub tree : IsTree new.trail
  pub heap : IsHeap new

-- the live map with the n keys of a map and another prototype was found or made, as was the root that it comes from
pub record HasMapFor (old new : View) (null then_null : Option ℕ) (m c n : ℕ) (proto : Option ℕ) : Type 0 where
  pub root : ℕ
  pub found : IsFoundFrom (rooted old null proto root) old new then_null root m c n proto (shared_need old.trail n proto null)
