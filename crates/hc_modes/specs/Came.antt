-- What became of objects from one state to a later one.
use Rattle.hc_tree.specs.Copying.{IsPrivateCopy}
use Rattle.hc_descs.specs.Entries.{count_of}
use Rattle.std.specs.Prelude.{◌≡◌, ◌≢◌, ◌⊎◌, ◌≤◌, ℕ, IsTrue, Option, Some, None, List, [], ◌∷◌, length, ⊤, true, false}
use Rattle.hc_board.specs.Trail.{Access}
use Rattle.hc_layout.specs.declared.capacity.TheConstants.{MAX_FAST}
use Rattle.hc_value.specs.declared.prop.Held.{Held}
use Rattle.hc_value.specs.declared.prop.Prop.{Prop}
use Rattle.hc_value.specs.declared.reply.Cause.{Cause}
use Rattle.hc_value.specs.declared.reply.Cause.TheVariants.{Deleted, Many, Reconfigured, Space}
use Rattle.hc_heap.specs.Lawful.{Lawful}
use Rattle.hc_heap.specs.Readings.{bits_in, map_in, root_in}
use Rattle.hc_heap.specs.States.{View}
use Rattle.hc_heap.specs.Writes.{Trail}
use Rattle.hc_tree.specs.Growth.{marked}
use Rattle.hc_tree.specs.Needs.{HasSpace, with_need}
use Rattle.hc_table.specs.World.{props_at}
use Rattle.hc_table.specs.Changes.{Did, Nothing, Moved, Created, Added, Wrote, Reconfigured as Changed, Removed, Linked, Locked, Restricted}
use Rattle.hc_slots.specs.Meaning.{Dictionary}
use Rattle.hc_modes.specs.Admitting.{FitsField}
use Rattle.hc_modes.specs.Details.{AddKills, BecameGets, DetailsAre, DetailsOf, GetsNothing, IfFast}
use Rattle.hc_modes.specs.Meaning.{cause_in}
use Rattle.hc_modes.specs.Rest.{AreLone, Marks, MarksBut, MarksNew, Relinks}
pub use Rattle.hc_modes.specs.Replaced.{HasGeneralised, HasMigrated, HasReplaced, IsOther, LacksGrowth, LacksRoom, LacksStore, LacksUpdate}
pub use Rattle.hc_modes.specs.Steps.{IsStill, ProtosStay, Steps, world_of}
use Rattle.hc_modes.specs.State.{ObjectsState, IsLive}
use Rattle.hc_modes.specs.Modes.{Becomes, Modes, IsWithin, if_fast, need_of, proto_need}

-- Moves

-- a move of one object, which changes no meaning: its map is made unstable, before it leaves that; it becomes a prototype; it
-- leaves its map for a dictionary; or it comes to a live map in the place of its own, where that was dead, or where its field
-- couldn't hold what is to be stored at a place
pub data Move : Type 0 where
  Marked : ℕ → Move
  Became : ℕ → Move
  Left : ℕ → Cause → Move
  Migrated : ℕ → Move
  Generalised : ℕ → ℕ → Held → Move

-- the map of a fast object is unstable now, and all else is as it was
pub record IsMarked {P : Type 0} (goes_with : P → List Access → List Access → P → Type 0) (a : ObjectsState P) (o : ℕ) (b : ObjectsState P) : Type 0 where
  pub steps : Steps goes_with a Moved b
  pub map : ℕ
  pub has : map_in a.heap.view.trail o ≡ Some map
  pub trail : b.heap.view.trail ≡ marked a.heap.view.trail map
  pub used : b.heap.view.used ≡ a.heap.view.used
  pub kept : b.kept ≡ a.kept
  pub null : b.of_null ≡ a.of_null
  pub roots : (q : ℕ) → root_in b.heap.view.trail q ≡ root_in a.heap.view.trail q
  pub maps : (q : ℕ) → map_in b.heap.view.trail q ≡ map_in a.heap.view.trail q
  pub lawful : Lawful b.heap.view.shape b.heap.view.trail

-- an object has the next map for its own, a private copy of the one that it had, with new fields
pub record HasOwnCopy (old new : View) (p m : ℕ) : Type 0 where
  pub proto : Option ℕ
  pub moved : map_in new.trail p ≡ Some old.used.maps
  pub copy : IsPrivateCopy true None proto new.trail old.used.maps m (count_of old.trail m) old.used.fields

-- how an object became a prototype: what it marks, that its map is stable, the copy that a fast one has, and its fields
pub record HowBecame {P : Type 0} (a : ObjectsState P) (p : ℕ) (b : ObjectsState P) : Type 0 where
  pub marks : Marks a.heap.view.trail b.heap.view.trail p
  pub own : (m : ℕ) → map_in b.heap.view.trail p ≡ Some m → (root_in a.heap.view.trail p).is_proto ≡ false → (bits_in b.heap.view.trail m).unstable ≡ false
  pub owns : (m : ℕ) → map_in a.heap.view.trail p ≡ Some m → (root_in a.heap.view.trail p).is_proto ≡ false → cause_in b.kept p ≡ None → HasOwnCopy a.heap.view b.heap.view p m
  pub details : DetailsAre (IfFast (cause_in b.kept p) (BecameGets a.heap.view p)) a.heap.view.trail b.heap.view.trail

-- an object became a prototype: where it was fast it has a private map, or is slow where there was no room for one; and no
-- item was handed out but for that map
pub record IsBecome {P : Type 0} (goes_with : P → List Access → List Access → P → Type 0) (a : ObjectsState P) (p : ℕ) (b : ObjectsState P) : Type 0 where
  pub steps : Steps goes_with a Moved b
  pub mode : Becomes (cause_in a.kept p) None (HasSpace a.heap.view (proto_need a.heap.view.trail p)) (cause_in b.kept p)
  pub used : b.heap.view.used ≡ with_need (if_fast (cause_in b.kept p) (proto_need a.heap.view.trail p)) a.heap.view.used
  pub proto : IsTrue (root_in b.heap.view.trail p).is_proto
  pub protos : (q : ℕ) → q ≢ p → (root_in b.heap.view.trail q).is_proto ≡ (root_in a.heap.view.trail q).is_proto
  pub others : (q : ℕ) → q ≢ p → cause_in b.kept q ≡ cause_in a.kept q
  pub how : HowBecame a p b
  pub lawful : Lawful b.heap.view.shape b.heap.view.trail
  pub lone : AreLone b.heap.view.trail

-- why a fast object may leave its map where no change follows: it was to get a property, and has as many as it can; or there is no
-- room: for one more, for the live map in place of a dead one, or for a map whose field may hold what is to be stored
abbrev pub MayLeave : {P : Type 0} → ObjectsState P → ℕ → Cause → Type 0
MayLeave a o Many = MAX_FAST ≤ length (props_at (world_of a) o)
MayLeave a o Space = LacksRoom a o
MayLeave a o Deleted = ⊥
MayLeave a o Reconfigured = ⊥

-- a fast object left its map for a dictionary, for a cause that it met, and no item was handed out
pub record HasLeft {P : Type 0} (goes_with : P → List Access → List Access → P → Type 0) (a : ObjectsState P) (o : ℕ) (cause : Cause) (b : ObjectsState P) : Type 0 where
  pub steps : Steps goes_with a Moved b
  pub fast : cause_in a.kept o ≡ None
  pub why : MayLeave a o cause
  pub slow : cause_in b.kept o ≡ Some cause
  pub used : b.heap.view.used ≡ a.heap.view.used
  pub protos : ProtosStay a.heap.view.trail b.heap.view.trail
  pub others : (q : ℕ) → q ≢ o → cause_in b.kept q ≡ cause_in a.kept q
  pub lawful : Lawful b.heap.view.shape b.heap.view.trail
  pub marks : Marks a.heap.view.trail b.heap.view.trail o
  pub details : DetailsAre GetsNothing a.heap.view.trail b.heap.view.trail

abbrev pub IsMove : {P : Type 0} → (P → List Access → List Access → P → Type 0) → ObjectsState P → Move → ObjectsState P → Type 0
IsMove went a (Marked o) b = IsMarked went a o b
IsMove went a (Became p) b = IsBecome went a p b
IsMove went a (Left o cause) b = HasLeft went a o cause b
IsMove went a (Migrated o) b = HasMigrated went a o b
IsMove went a (Generalised o i held) b = HasGeneralised went a o i held b

-- moves, one after another, each in the state that the one before it left
abbrev pub AreMoves : {P : Type 0} → (P → List Access → List Access → P → Type 0) → ObjectsState P → List Move → ObjectsState P → Type 0
AreMoves went a [] b = IsStill a b
AreMoves {P} went a (move ∷ moves) b = (mid : ObjectsState P) × IsMove went a move mid × AreMoves went mid moves b

-- no map is left that was made unstable, and that its object has still
abbrev pub MayEnd : List Move → Type 0
MayEnd [] = ⊤
MayEnd (Marked o ∷ moves) = ⊥
MayEnd (Became p ∷ moves) = MayEnd moves
MayEnd (Left o cause ∷ moves) = MayEnd moves
MayEnd (Migrated o ∷ moves) = MayEnd moves
MayEnd (Generalised o i held ∷ moves) = MayEnd moves

-- moves and nothing else; so far it is one at most
pub record Moves {P : Type 0} (goes_with : P → List Access → List Access → P → Type 0) (a b : ObjectsState P) : Type 0 where
  pub moves : List Move
  pub few : length moves ≤ 1
  pub ends : MayEnd moves
  pub are : AreMoves goes_with a moves b

-- Moves before an operation

-- the map of an object was live, or the object slow, and nothing was done
pub record WasLive {P : Type 0} (a : ObjectsState P) (o : ℕ) (b : ObjectsState P) : Type 0 where
  pub live : IsLive a.heap.view.trail o
  pub still : IsStill a b

-- the map of a fast object was dead, and there was no room for the live one in its place
pub record LeftDead {P : Type 0} (goes_with : P → List Access → List Access → P → Type 0) (a : ObjectsState P) (o : ℕ) (b : ObjectsState P) : Type 0 where
  pub why : LacksUpdate a o
  pub left : HasLeft goes_with a o Space b

-- an object was made live: it was so before, or it was migrated, or it is slow for want of room. Its map is live now, where it has one
pub record IsMadeLive {P : Type 0} (goes_with : P → List Access → List Access → P → Type 0) (a : ObjectsState P) (o : ℕ) (b : ObjectsState P) : Type 0 where
  pub came : WasLive a o b ⊎ (HasMigrated goes_with a o b ⊎ LeftDead goes_with a o b)
  pub live : IsLive b.heap.view.trail o

-- what is to be stored at a place could be held there already, or the object was slow, and nothing was done
pub record WasFit {P : Type 0} (a : ObjectsState P) (o i : ℕ) (held : Held) (b : ObjectsState P) : Type 0 where
  pub fits : FitsField a.heap.view.trail o i held
  pub still : IsStill a b

-- it couldn't, and there was no room for the maps whose field may hold it
pub record LeftUnfit {P : Type 0} (goes_with : P → List Access → List Access → P → Type 0) (a : ObjectsState P) (o i : ℕ) (held : Held) (b : ObjectsState P) : Type 0 where
  pub why : LacksStore a o i held
  pub left : HasLeft goes_with a o Space b

-- an object was made fit for a store at a place: it was so before, or its map was generalised, or it is slow for want of room. The
-- field of the place may hold that in place now, where the object is fast
pub record IsMadeFit {P : Type 0} (goes_with : P → List Access → List Access → P → Type 0) (a : ObjectsState P) (o i : ℕ) (held : Held) (b : ObjectsState P) : Type 0 where
  pub came : WasFit a o i held b ⊎ (HasGeneralised goes_with a o i held b ⊎ LeftUnfit goes_with a o i held b)
  pub fits : FitsField b.heap.view.trail o i held
  pub live : IsLive b.heap.view.trail o

-- an object was made fit for a property in the place of another one with the same key
pub record IsMadeFitAs {P : Type 0} (goes_with : P → List Access → List Access → P → Type 0) (a : ObjectsState P) (o i : ℕ) (p : Prop) (b : ObjectsState P) : Type 0 where
  pub other : IsOther (world_of a) o i p
  pub fit : IsMadeFit goes_with a o i p.held b

-- what stands there is that property, or has another key, and nothing was done
pub record IsUnasked {P : Type 0} (a : ObjectsState P) (o i : ℕ) (p : Prop) (b : ObjectsState P) : Type 0 where
  pub none : IsOther (world_of a) o i p → ⊥
  pub still : IsStill a b

-- an object was made fit for a property in the place of another, which is asked only where it is another one with the same key
abbrev pub IsMadeFitFor : {P : Type 0} → (P → List Access → List Access → P → Type 0) → ObjectsState P → ℕ → ℕ → Prop → ObjectsState P → Type 0
IsMadeFitFor went a o i p b = IsMadeFitAs went a o i p b ⊎ IsUnasked a o i p b

-- Operations

-- a new object's prototype becomes one before
abbrev pub moves_to_create : Option ℕ → List Move
moves_to_create (Some p) = Became p ∷ []
moves_to_create None = []

-- before a fast object gets a slow one as prototype, its map is made unstable
abbrev pub marked_before : Option Cause → Option Cause → ℕ → List Move → List Move
marked_before None (Some cause) o moves = Marked o ∷ moves
marked_before _ _ o moves = moves

-- and an object's prototype becomes one before
abbrev pub moves_to_link : {P : Type 0} → ObjectsState P → ℕ → Option ℕ → List Move
moves_to_link a o (Some p) = marked_before (cause_in a.kept o) (cause_in a.kept p) o (Became p ∷ [])
moves_to_link a o None = []

-- the moves before an operation
abbrev pub moves_before : {P : Type 0} → ObjectsState P → Did → List Move
moves_before a (Created proto) = moves_to_create proto
moves_before a (Linked o proto) = moves_to_link a o proto
moves_before a _ = []

-- what an operation on one object makes unstable, and which maps die by it; those that die where an object gets another prototype are
-- told with its details
abbrev pub MarksOf : Did → View → List (Option Dictionary) → Trail → Type 0
MarksOf (Created proto) v kept new = MarksNew v.trail new
MarksOf (Added o p) v kept new = MarksBut (AddKills v kept o p) v.trail new o
MarksOf (Wrote o i held) v kept new = Marks v.trail new o
MarksOf (Changed o i p) v kept new = Marks v.trail new o
MarksOf (Removed o i) v kept new = Marks v.trail new o
MarksOf (Linked o proto) v kept new = Relinks v.trail new o proto
MarksOf (Locked o) v kept new = Marks v.trail new o
MarksOf (Restricted o frozen) v kept new = Marks v.trail new o
MarksOf _ v kept new = ⊤

-- an operation by itself: what it made of modes, no more items handed out than it needs, what it made unstable, which maps died, and
-- what became of details
pub record Made {P : Type 0} (goes_with : P → List Access → List Access → P → Type 0) (a : ObjectsState P) (did : Did) (b : ObjectsState P) : Type 0 where
  pub steps : Steps goes_with a did b
  pub modes : Modes a did b
  pub needs : IsWithin (need_of a did) a.heap.view.used b.heap.view.used
  pub protos : ProtosStay a.heap.view.trail b.heap.view.trail
  pub marks : MarksOf did a.heap.view a.kept b.heap.view.trail
  pub details : DetailsOf did a.heap.view a.kept a.of_null b.heap.view.trail

-- an operation, and the moves before it
pub record Effect {P : Type 0} (goes_with : P → List Access → List Access → P → Type 0) (a : ObjectsState P) (did : Did) (b : ObjectsState P) : Type 0 where
  pub mid : ObjectsState P
  pub moves : AreMoves goes_with a (moves_before a did) mid
  pub own : Made goes_with mid did b

-- what was done: nothing, moves alone, or an operation
abbrev pub Came : {P : Type 0} → (P → List Access → List Access → P → Type 0) → ObjectsState P → Did → ObjectsState P → Type 0
Came went a Nothing b = IsStill a b
Came went a Moved b = Moves went a b
Came went a did b = Effect went a did b
