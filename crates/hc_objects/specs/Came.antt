-- What became of objects, and of their validity cells, from one state to a later one.
use Rattle.std.specs.Prelude.{◌≡◌, ◌⊎◌, ℕ, false, Option, Some, None, List}
use Rattle.hc_layout.specs.declared.words.CellWord.{CellWord}
use Rattle.hc_board.specs.Trail.{Access}
use Rattle.hc_value.specs.declared.prop.Held.{Held}
use Rattle.hc_value.specs.declared.prop.Prop.{Prop}
use Rattle.hc_table.specs.Changes.{Did, Nothing, Moved, Created, Added, Wrote, Reconfigured, Removed, Linked, Locked, Restricted}
pub use Rattle.hc_modes.specs.Came.{IsStill, world_of}
use Rattle.hc_modes.specs.Came.{Came as CameBare, IsMadeFit, IsMadeFitFor, IsMadeLive}
use Rattle.hc_modes.specs.State.{IsLive, IsObjects, ObjectsState}
use Rattle.hc_modes.specs.Validity.{CellsFollow, OnlyCells, StaysPut, goes_through}
use Rattle.hc_objects.specs.State.{IsStanding}

-- One step, and the cells after it

-- something was done, and then cells were made invalid: exactly those on whose chains something changed
pub record FollowedBy {P : Type 0} (goes_with : P → List Access → List Access → P → Type 0) (Bare : ObjectsState P → ObjectsState P → Type 0) (a b : ObjectsState P) : Type 0 where
  pub bare : ObjectsState P
  pub came : Bare a bare
  pub sound : IsObjects bare.heap.view bare.kept bare.of_null
  pub only : OnlyCells goes_with bare b
  pub cells : CellsFollow a b
  pub stands : IsStanding b

-- an operation was done, or moves were that change no meaning, and the cells follow
abbrev pub Followed : {P : Type 0} → (P → List Access → List Access → P → Type 0) → ObjectsState P → Did → ObjectsState P → Type 0
Followed went a did b = FollowedBy went (λ x y. CameBare went x did y) a b

-- Objects made ready for an operation

-- an object that was deprecated isn't so now: it was migrated, or left its map for want of room, and the cells follow
pub record WasMadeLive {P : Type 0} (goes_with : P → List Access → List Access → P → Type 0) (a : ObjectsState P) (o : ℕ) (b : ObjectsState P) : Type 0 where
  pub dead : IsLive a.heap.view.trail o → ⊥
  pub followed : FollowedBy goes_with (λ x y. IsMadeLive goes_with x o y) a b

-- an object is made live: nothing was done where it was, and else it was moved
abbrev pub MadeLive : {P : Type 0} → (P → List Access → List Access → P → Type 0) → ObjectsState P → ℕ → ObjectsState P → Type 0
MadeLive went a o b = (IsLive a.heap.view.trail o × IsStill a b) ⊎ WasMadeLive went a o b

-- the same of an object that is named as prototype, where one is
abbrev pub MadeNamed : {P : Type 0} → (P → List Access → List Access → P → Type 0) → ObjectsState P → Option ℕ → ObjectsState P → Type 0
MadeNamed went a (Some p) b = MadeLive went a p b
MadeNamed went a None b = IsStill a b

-- the field of a place may hold in place what is to be held there: its map was generalised where it couldn't, or the object left it
-- for want of room, and the cells follow
abbrev pub MadeFit : {P : Type 0} → (P → List Access → List Access → P → Type 0) → ObjectsState P → ℕ → ℕ → Held → ObjectsState P → Type 0
MadeFit went a o i held b = FollowedBy went (λ x y. IsMadeFit went x o i held y) a b

-- the same where another property is to stand at the place
abbrev pub MadeFitFor : {P : Type 0} → (P → List Access → List Access → P → Type 0) → ObjectsState P → ℕ → ℕ → Prop → ObjectsState P → Type 0
MadeFitFor went a o i p b = FollowedBy went (λ x y. IsMadeFitFor went x o i p y) a b

-- the objects that an operation uses were made live, in the order of the line: the object itself, and then the one that is named as
-- prototype; and before a store the field was made to fit
abbrev pub Readied : {P : Type 0} → (P → List Access → List Access → P → Type 0) → ObjectsState P → Did → ObjectsState P → Type 0
Readied went a Nothing b = IsStill a b
Readied went a Moved b = IsStill a b
Readied went a (Created proto) b = MadeNamed went a proto b
Readied went a (Added o p) b = MadeLive went a o b
Readied {P} went a (Wrote o i held) b = (mid : ObjectsState P) × MadeLive went a o mid × MadeFit went mid o i held b
Readied {P} went a (Reconfigured o i p) b = (mid : ObjectsState P) × MadeLive went a o mid × MadeFitFor went mid o i p b
Readied went a (Removed o i) b = MadeLive went a o b
Readied {P} went a (Linked o proto) b = (mid : ObjectsState P) × MadeLive went a o mid × MadeNamed went mid proto b
Readied went a (Locked o) b = MadeLive went a o b
Readied went a (Restricted o frozen) b = MadeLive went a o b

-- Operations

-- an operation: the objects that it uses are made ready, and then it is done, and the cells follow each of these
pub record Effect {P : Type 0} (goes_with : P → List Access → List Access → P → Type 0) (a : ObjectsState P) (did : Did) (b : ObjectsState P) : Type 0 where
  pub begin : ObjectsState P
  pub still : IsStill a begin
  pub ready : ObjectsState P
  pub readied : Readied goes_with begin did ready
  pub done : Followed goes_with ready did b

-- nothing, or moves that change no meaning, after which the cells follow
abbrev pub MovesOnce : {P : Type 0} → (P → List Access → List Access → P → Type 0) → ObjectsState P → ObjectsState P → Type 0
MovesOnce went a b = IsStill a b ⊎ Followed went a Moved b

-- this three times at most: those before an operation, and those of the operation
pub record Moves {P : Type 0} (goes_with : P → List Access → List Access → P → Type 0) (a b : ObjectsState P) : Type 0 where
  pub once : ObjectsState P
  pub twice : ObjectsState P
  pub first : MovesOnce goes_with a once
  pub second : MovesOnce goes_with once twice
  pub third : MovesOnce goes_with twice b

-- what was done: nothing, moves alone, or an operation
abbrev pub Came : {P : Type 0} → (P → List Access → List Access → P → Type 0) → ObjectsState P → Did → ObjectsState P → Type 0
Came went a Nothing b = IsStill a b
Came went a Moved b = Moves went a b
Came went a did b = Effect went a did b

-- a cell is of the prototype that it was of; where it is valid, it was before, and each object of its chain stays put
pub record SaysStill {P : Type 0} (a b : ObjectsState P) (was now : CellWord) : Type 0 where
  pub object : now.object ≡ was.object
  pub valid : now.invalid ≡ false → was.invalid ≡ false
  pub put : now.invalid ≡ false → (q : ℕ) → goes_through a was.object q → StaysPut a b q
