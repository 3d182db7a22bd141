-- What a change of one object leaves of chains, each law the contract of a function of `laws.rt`.
use Rattle.std.specs.Prelude.{◌≡◌, ◌≢◌, ℕ, ◌<◌, ◌≤◌, Bool, false, Option, Some, List, length}
use Rattle.hc_heap.specs.Writes.{Trail}
use Rattle.hc_heap.specs.Readings.{validity_in}
use Rattle.hc_heap.specs.States.{View}
use Rattle.hc_cells.specs.Chains.{Ends, HaveEnds, chain, passes, proto_at}
use Rattle.hc_cells.specs.Cells.{AreCells}
use Rattle.hc_cells.specs.Watched.{AreWatched, AreWatchedBut}

-- each object but one has the prototype that it had
pub record OthersKeep (o : ℕ) (old new : Trail) (protos later : List (Option ℕ)) : Type 0 where
  pub more : length protos ≤ length later
  pub same : (q : ℕ) → q < length protos → q ≢ o → proto_at new later q ≡ proto_at old protos q

-- a chain that doesn't go through the object stays
abbrev pub ChainsStay : Type 0
ChainsStay = (o p : ℕ) (old new : Trail) (protos later : List (Option ℕ)) → OthersKeep o old new protos later
    → Ends (length protos) old protos (Some p) → passes old protos p o ≡ false → chain new later p ≡ chain old protos p

-- a chain goes through the object exactly where it did before
abbrev pub WaysStay : Type 0
WaysStay = (o p : ℕ) (old new : Trail) (protos later : List (Option ℕ)) → OthersKeep o old new protos later
    → Ends (length protos) old protos (Some p) → Ends (length later) new later (Some p) → passes new later p o ≡ passes old protos p o

-- marks of chains before the change are such afterwards too, but for chains through the object
abbrev pub MarksStay : Type 0
MarksStay = (o : ℕ) (old : View) (new : Trail) (protos later : List (Option ℕ)) (marks : List Bool) → OthersKeep o old.trail new protos later
    → HaveEnds old.trail protos → HaveEnds new later → old.used.objects ≤ length protos → AreCells old.trail old.used → ((c : ℕ) → validity_in new c ≡ validity_in old.trail c)
    → AreWatched old.trail protos marks → AreWatchedBut o new later marks
