-- The objects that a command uses, and what becomes of them before the command does anything else.
use Rattle.std.specs.Prelude.{◌≡◌, ℕ, Bool, if◌then◌else◌, List, [], ◌∷◌, ◌++◌, Option, Some, None}
use Rattle.hc_board.specs.Trail.{Access}
use Rattle.hc_modes.specs.State.{ObjectsState}
use Rattle.hc_objects.specs.Came.{MadeLive, Moves}
use Rattle.hc_commands.specs.declared.command.Command.{Command}
use Rattle.hc_commands.specs.declared.command.Command.TheVariants.{Get, Set, Define, Has, Own, Delete, Keys, Proto, SetProto, Extensible, Lock, Seal, Freeze, Shape, Same, Exec, Compile, Step, Finish}
use Rattle.hc_session.specs.Plain.{PlainState, is_accepted_job, is_access}
use Rattle.hc_session.specs.Tables.{all_there}

-- Which objects a command uses

-- the object that a command names as its own
abbrev pub object_of : Command → Option ℕ
object_of (Get o name) = Some o
object_of (Set o name value) = Some o
object_of (Define o name d) = Some o
object_of (Has o name) = Some o
object_of (Own o name) = Some o
object_of (Delete o name) = Some o
object_of (Keys o) = Some o
object_of (Proto o) = Some o
object_of (SetProto o proto) = Some o
object_of (Extensible o) = Some o
object_of (Lock o) = Some o
object_of (Seal o) = Some o
object_of (Freeze o) = Some o
object_of (Exec s o value) = Some o
object_of command = None

-- the object that it names as prototype. That of a new object is migrated where the object is made, as there may be no room for it
abbrev pub proto_of : Command → Option ℕ
proto_of (SetProto o proto) = proto
proto_of command = None

abbrev pub named_if : Option ℕ → List ℕ
named_if (Some o) = o ∷ []
named_if None = []

-- the objects that a command uses, in the order of its line. Of two whose maps are compared the first is migrated once more after the
-- second. Those that a command names as values aren't used
abbrev pub uses_of : Command → List ℕ
uses_of (Shape o) = o ∷ []
uses_of (Same a b) = a ∷ b ∷ a ∷ []
uses_of command = named_if (object_of command) ++ named_if (proto_of command)

-- a command is accepted: an access as its site tells, a command of jobs as these do, and each other one where each object that it
-- names is there
abbrev pub is_accepted : PlainState → Command → Bool
is_accepted plain (Exec s o value) = is_access plain (Exec s o value)
is_accepted plain (Compile s) = is_accepted_job plain (Compile s)
is_accepted plain (Step j reads) = is_accepted_job plain (Step j reads)
is_accepted plain (Finish j) = is_accepted_job plain (Finish j)
is_accepted plain command = all_there plain.tables command

-- one that is refused uses none
abbrev pub uses_if : Bool → Command → List ℕ
uses_if accepted command = if accepted then uses_of command else []

-- What becomes of them

-- objects were migrated, one after another
abbrev pub AreReadied : {P : Type 0} → (P → List Access → List Access → P → Type 0) → ObjectsState P → List ℕ → ObjectsState P → Type 0
AreReadied went a [] b = b ≡ a
AreReadied {P} went a (o ∷ os) b = (mid : ObjectsState P) × MadeLive went a o mid × AreReadied went mid os b

-- want of memory left this: of the objects that a command uses the first were migrated, and then objects moved at most
pub record MovesInWant {P : Type 0} (went : P → List Access → List Access → P → Type 0) (a : ObjectsState P) (uses : List ℕ) (b : ObjectsState P) : Type 0 where
  pub first : List ℕ
  pub left : List ℕ
  pub split : uses ≡ first ++ left
  pub ready : ObjectsState P
  pub readied : AreReadied went a first ready
  pub moves : Moves went ready b
