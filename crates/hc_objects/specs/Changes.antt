-- The changes of one object, as what tables do.
use Rattle.std.specs.Prelude.{◌≡◌, ℕ, ◌<◌, Bool, IsTrue, true, false, ⊤, Option, Some, None, List, length}
use Rattle.hc_board.specs.Trail.{Access}
use Rattle.hc_heap.specs.States.{View}
use Rattle.hc_heap.specs.Writes.{Trail}
use Rattle.hc_value.specs.Prop.{kind_of}
use Rattle.hc_value.specs.declared.prop.Prop.{Prop}
use Rattle.hc_table.specs.Attributes.{IsProper}
use Rattle.hc_table.specs.Changes.{Did, Added, Wrote, Reconfigured, Removed, Linked, Locked, Restricted, IsThere, after, kind_at, name_at, reaches}
use Rattle.hc_table.specs.Ranges.{IsHeldInRange}
use Rattle.hc_table.specs.World.{World, object, place_of, props_at}
use Rattle.hc_modes.specs.Admitting.{FitsField, added}
use Rattle.hc_modes.specs.Came.{IsMadeFit, IsMadeFitFor, IsMadeLive, IsOther}
use Rattle.hc_modes.specs.Planned.{MayCome}
use Rattle.hc_modes.specs.State.{IsLive, ObjectsState}
use Rattle.hc_objects.specs.Came.{IsStill, MadeFit, MadeFitFor, MadeNamed}
use Rattle.hc_objects.specs.declared.change.Change.{Change}
use Rattle.hc_objects.specs.declared.change.Change.TheVariants.{Add, AddBy, Write, Put, Remove, Link, Lock, Restrict}
use Rattle.hc_objects.specs.declared.change.Ready.{Ready}
use Rattle.hc_objects.specs.declared.change.Ready.TheVariants.{Live, Fit, FitFor}

-- what it does to an object
abbrev pub did_of : ℕ → Change → Did
did_of o (Add p) = Added o p
did_of o (AddBy child name value) = Added o (added name value)
did_of o (Write i held) = Wrote o i held
did_of o (Put i p) = Reconfigured o i p
did_of o (Remove i) = Removed o i
did_of o (Link proto) = Linked o proto
did_of o Lock = Locked o
did_of o (Restrict frozen) = Restricted o frozen

-- a change that is always done: something else is held at a place, or the child is known to which the object comes
abbrev pub IsSure : Change → Type 0
IsSure (Write i held) = ⊤
IsSure (AddBy child name value) = ⊤
IsSure _ = ⊥

-- a change of which nothing is known beforehand, so that the object is made ready for it
abbrev pub IsPlain : Change → Type 0
IsPlain (AddBy child name value) = ⊥
IsPlain _ = ⊤

-- the object that it names as prototype
abbrev pub named_by : Change → Option ℕ
named_by (Link proto) = proto
named_by _ = None

-- an object gets a property that it lacks, and may get
pub record MayAdd (w : World) (o : ℕ) (p : Prop) : Type 0 where
  pub absent : place_of (props_at w o) p.name ≡ None
  pub extensible : (object w o).extensible ≡ true
  pub proper : IsProper p

-- an object may be changed so
abbrev pub MayChange : World → ℕ → Change → Type 0
MayChange w o (Add p) = MayAdd w o p
MayChange w o (AddBy child name value) = MayAdd w o (added name value)
MayChange w o (Write i held) = (kind_at (props_at w o) i ≡ Some (kind_of held)) × IsHeldInRange held
MayChange w o (Put i p) = (name_at (props_at w o) i ≡ Some p.name) × IsProper p
MayChange w o (Remove i) = i < length (props_at w o)
MayChange w o (Link proto) = IsThere w proto × (reaches w proto o ≡ false)
MayChange w o Lock = ⊤
MayChange w o (Restrict frozen) = ⊤

-- an object's prototype and properties are the same in both worlds
pub record IsSameIn (w v : World) (o : ℕ) : Type 0 where
  pub proto : (object v o).proto ≡ (object w o).proto
  pub props : props_at v o ≡ props_at w o

-- a test is true exactly where a change leaves the object another prototype or other properties
pub record Alters (w : World) (o : ℕ) (change : Change) (test : Bool) : Type 0 where
  pub other : IsTrue test → IsSameIn w (after (did_of o change) w) o → ⊥
  pub same : test ≡ false → IsSameIn w (after (did_of o change) w) o

-- the test of a slow object; of a fast one it is false
pub record AltersSlow (w : World) (o : ℕ) (is_slow : Bool) (change : Change) (test : Bool) : Type 0 where
  pub slow : is_slow ≡ true → Alters w o change test
  pub fast : is_slow ≡ false → test ≡ false

-- Objects made ready

-- an object may be made ready so: what is to be stored is of the property's kind, or has its name
abbrev pub MayReady : World → ℕ → Ready → Type 0
MayReady w o Live = ⊤
MayReady w o (Fit i held) = (kind_at (props_at w o) i ≡ Some (kind_of held)) × IsHeldInRange held
MayReady w o (FitFor i p) = (name_at (props_at w o) i ≡ Some p.name) × IsProper p

-- an object is live before its field is made to fit
abbrev pub IsLiveFor : Trail → ℕ → Ready → Type 0
IsLiveFor t o Live = ⊤
IsLiveFor t o (Fit i held) = IsLive t o
IsLiveFor t o (FitFor i p) = IsLive t o

-- an object was made ready
abbrev pub IsReadied : {P : Type 0} → (P → List Access → List Access → P → Type 0) → ObjectsState P → ℕ → Ready → ObjectsState P → Type 0
IsReadied went a o Live b = IsMadeLive went a o b
IsReadied went a o (Fit i held) b = IsMadeFit went a o i held b
IsReadied went a o (FitFor i p) b = IsMadeFitFor went a o i p b

-- a live object was made ready for a change, and the prototype that is named is live
abbrev pub ReadiedFor : {P : Type 0} → (P → List Access → List Access → P → Type 0) → ObjectsState P → ℕ → Change → ObjectsState P → Type 0
ReadiedFor went a o (Add p) b = IsStill a b
ReadiedFor went a o (AddBy child name value) b = IsStill a b
ReadiedFor went a o (Write i held) b = MadeFit went a o i held b
ReadiedFor went a o (Put i p) b = MadeFitFor went a o i p b
ReadiedFor went a o (Remove i) b = IsStill a b
ReadiedFor went a o (Link proto) b = MadeNamed went a proto b
ReadiedFor went a o Lock b = IsStill a b
ReadiedFor went a o (Restrict frozen) b = IsStill a b

-- an object is ready for a change: live where it is to grow, or it may come to the child that is known; and the field of a store
-- holds in place what is to be stored
abbrev pub IsReadyFor : World → View → ℕ → Change → Type 0
IsReadyFor w v o (Add p) = IsLive v.trail o
IsReadyFor w v o (AddBy child name value) = MayCome v o child name value
IsReadyFor w v o (Write i held) = FitsField v.trail o i held
IsReadyFor w v o (Put i p) = IsOther w o i p → FitsField v.trail o i p.held
IsReadyFor w v o _ = ⊤
