-- The live map that an update comes to: found where the fields of live maps join with a map's own in place, and made from the
-- first place on where they don't, or where there is no live map.
use Rattle.std.specs.Prelude.{◌≡◌, ◌⊎◌, ℕ, ◌<◌, ◌≤◌, true, false, Option}
use Rattle.hc_value.specs.declared.field.Detail.{Detail}
use Rattle.hc_heap.specs.Writes.{Trail}
use Rattle.hc_heap.specs.States.{View}
use Rattle.hc_tree.specs.Tree.{IsRoot}
use Rattle.hc_tree.specs.Details.{detail_at, fits_at}
use Rattle.hc_tree.specs.Walking.{GetsJoin, GetsWanted, IsLiveEnd, wanted_at}
use Rattle.hc_tree.specs.declared.retarget.Wanted.TheVariants.{Joined}
use Rattle.hc_update.specs.Renewing.{AdmitMore, IsRenewed}

-- a map is the root of some prototype
pub record IsSomeRoot (t : Trail) (r : ℕ) : Type 0 where
  pub prototype : Option ℕ
  pub root : IsRoot t prototype r

-- the first of so many places at which the fields of a map don't join in place with those of another; past them where all do
pub record IsStop (t : Trail) (end m count k : ℕ) : Type 0 where
  pub within : k ≤ count
  pub before : (j : ℕ) → j < k → fits_at t end m j ≡ true
  pub stops : k < count → fits_at t end m k ≡ false

-- what is to be admitted by the field of a map's j-th entry after its update: the join with the live one there, as far as live
-- maps go, and past their end what the map's own field admits
abbrev pub updated_at : Trail → ℕ → ℕ → ℕ → ℕ → Option Detail
updated_at t end m count j = wanted_at t m 0 (Joined end count) j

-- what fields get in an update: those of live maps the join, before the first place that isn't in place, and new ones from there
-- on what is to be admitted
abbrev pub UpdateGets : Trail → ℕ → ℕ → ℕ → ℕ → ℕ → ℕ → ℕ → Detail → Type 0
UpdateGets t end m count stop n first f d = GetsJoin t end m stop f d ⊎ GetsWanted (updated_at t end m count) stop n first f d

-- a shared map was updated from a root: live maps were walked along its keys as far as they go. Before the first place that isn't
-- in place their fields were raised. There the live map died with all maps under it, if there is one, and new maps were made
pub record IsUpdated (old new : View) (root m n c : ℕ) : Type 0 where
  pub end : ℕ
  pub count : ℕ
  pub stop : ℕ
  pub ended : IsLiveEnd old.trail root m n end count
  pub stopped : IsStop old.trail end m count stop
  pub renewed : IsRenewed (UpdateGets old.trail end m count stop n old.used.fields) old new end count stop m n c
  pub details : (k : ℕ) → k < n → detail_at new.trail c k ≡ updated_at old.trail end m count k
  pub admits : AdmitMore old.trail new.trail m c n
