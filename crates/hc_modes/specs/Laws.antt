-- The laws of what was done: nothing before it and after it changes nothing, and the tables after it are those that it says.
use Rattle.std.proofs.Common.{◌≡◌, ℕ, ◌≤◌, List, [], ◌∷◌, Option, refl, sym, ap, ◌∙◌, subst, arith, Some, None}
use Rattle.std.specs.Prelude.{◌⊎◌}
use mathlib.Core.Logic.{inl, inr}
use Rattle.hc_value.specs.declared.prop.Held.{Held}
use Rattle.hc_value.specs.declared.prop.Prop.{Prop}
use Rattle.hc_tree.specs.declared.need.Need.{Need}
use Rattle.hc_board.specs.Trail.{Access}
use Rattle.hc_value.specs.declared.reply.Cause.{Cause}
use Rattle.hc_value.specs.declared.reply.Cause.TheVariants.{Deleted, Many, Space, Reconfigured as Changed}
use Rattle.hc_table.specs.World.{World}
use Rattle.hc_table.specs.Changes.{Did, Nothing, Moved, Created, Added, Wrote, Reconfigured, Removed, Linked, Locked, Restricted, after}
use Rattle.hc_heap.specs.Writes.{Trail}
use Rattle.hc_modes.specs.Admitting.{FitsField}
use Rattle.hc_modes.specs.State.{ObjectsState, IsLive}
use Rattle.hc_modes.specs.Modes.{Modes, IsOne, IsWithin, need_of}
use Rattle.hc_modes.specs.Came.{IsStill, Steps, Move, Marked, Became, Left, Migrated, Generalised, IsMarked, IsBecome, HasLeft, HasReplaced, HasMigrated, HasGeneralised, LacksRoom, LacksUpdate, LacksStore, MayLeave, IsMove, AreMoves, Moves, Made, Effect, Came, moves_before, moves_to_link, world_of}
use Rattle.hc_modes.specs.Came.{WasLive, LeftDead, IsMadeLive, WasFit, LeftUnfit, IsMadeFit, IsMadeFitFor, IsOther}

-- the state after so many loads
abbrev pub with_loads : {P : Type 0} → ObjectsState P → ℕ → ObjectsState P
with_loads a n = record a { heap = record a.heap { desk = record a.heap.desk { loads = n } } }

module _ {P : Type 0} (went : P → List Access → List Access → P → Type 0) where
  -- loads, and then something
  steps-from : (a c : ObjectsState P) (did : Did) (n : ℕ) → a.heap.desk.loads ≤ n → Steps went (with_loads a n) did c → Steps went a did c
  steps-from a c did n le h = record {
    world = h.world;
    shape = h.shape;
    goes = record { board = h.goes.board; trail = h.goes.trail; loads = omega (arith, le, h.goes.loads); met = h.goes.met };
    went = h.went;
    keeps = h.keeps;
  }

  one-from : (a c : ObjectsState P) (o : ℕ) (given : Option Cause) (room : Type 0) (n : ℕ) → IsOne (with_loads a n) o given room c → IsOne a o given room c
  one-from a c o given room n h = record { this = h.this; others = h.others }

  modes-from : (a c : ObjectsState P) (did : Did) (n : ℕ) → Modes (with_loads a n) did c → Modes a did c
  modes-from a c Nothing n h = h
  modes-from a c Moved n h = h
  modes-from a c (Created proto) n h = record { this = h.this; others = h.others }
  modes-from a c (Added o p) n h = record { this = h.this; others = h.others }
  modes-from a c (Wrote o i held) n h = h
  modes-from a c (Reconfigured o i p) n h = record { same = h.same; other = λ ne. one-from a c o _ _ n (h.other ne); none = h.none }
  modes-from a c (Removed o i) n h = record { this = h.this; others = h.others }
  modes-from a c (Linked o proto) n h = record { this = h.this; others = h.others }
  modes-from a c (Locked o) n h = record { this = h.this; others = h.others }
  modes-from a c (Restricted o frozen) n h = record { this = h.this; others = h.others }

  needs-from : (a c : ObjectsState P) (did : Did) (n : ℕ) → need_of (with_loads a n) did ≡ need_of a did
  needs-from a c Nothing n = refl
  needs-from a c Moved n = refl
  needs-from a c (Created proto) n = refl
  needs-from a c (Added o p) n = refl
  needs-from a c (Wrote o i held) n = refl
  needs-from a c (Reconfigured o i p) n = refl
  needs-from a c (Removed o i) n = refl
  needs-from a c (Linked o proto) n = refl
  needs-from a c (Locked o) n = refl
  needs-from a c (Restricted o frozen) n = refl

  made-from : (a c : ObjectsState P) (did : Did) (n : ℕ) → a.heap.desk.loads ≤ n → Made went (with_loads a n) did c → Made went a did c
  made-from a c did n le h = record {
    steps = steps-from a c did n le h.steps;
    modes = modes-from a c did n h.modes;
    needs = subst (λ k. IsWithin k a.heap.view.used c.heap.view.used) (needs-from a c did n) h.needs;
    protos = h.protos;
    marks = h.marks;
    details = h.details;
  }

  become-from : (a c : ObjectsState P) (p n : ℕ) → a.heap.desk.loads ≤ n → IsBecome went (with_loads a n) p c → IsBecome went a p c
  become-from a c p n le h = record {
    steps = steps-from a c Moved n le h.steps;
    mode = h.mode;
    used = h.used;
    proto = h.proto;
    protos = h.protos;
    others = h.others;
    how = record { marks = h.how.marks; own = h.how.own; owns = h.how.owns; details = h.how.details };
    lawful = h.lawful;
    lone = h.lone;
  }

  update-from : (a : ObjectsState P) (o n : ℕ) → LacksUpdate (with_loads a n) o → LacksUpdate a o
  update-from a o n h = record { map = h.map; has = h.has; dead = h.dead; full = h.full }

  store-from : (a : ObjectsState P) (o i : ℕ) (held : Held) (n : ℕ) → LacksStore (with_loads a n) o i held → LacksStore a o i held
  store-from a o i held n h = record { map = h.map; gate = h.gate; has = h.has; is_open = h.is_open; entry = h.entry; outgrown = h.outgrown; full = h.full }

  room-from : (a : ObjectsState P) (o n : ℕ) → LacksRoom (with_loads a n) o → LacksRoom a o
  room-from a o n (inl h) = inl (record { property = h.property; full = h.full })
  room-from a o n (inr (inl h)) = inr (inl (update-from a o n h))
  room-from a o n (inr (inr h)) = inr (inr (h.0, h.1, store-from a o h.0 h.1 n h.2))

  why-from : (a : ObjectsState P) (o : ℕ) (cause : Cause) (n : ℕ) → MayLeave (with_loads a n) o cause → MayLeave a o cause
  why-from a o Many n h = h
  why-from a o Space n h = room-from a o n h
  why-from a o Deleted n h = h
  why-from a o Changed n h = h

  left-from : (a c : ObjectsState P) (o : ℕ) (cause : Cause) (n : ℕ) → a.heap.desk.loads ≤ n → HasLeft went (with_loads a n) o cause c → HasLeft went a o cause c
  left-from a c o cause n le h = record {
    steps = steps-from a c Moved n le h.steps;
    fast = h.fast;
    why = why-from a o cause n h.why;
    slow = h.slow;
    used = h.used;
    protos = h.protos;
    others = h.others;
    lawful = h.lawful;
    marks = h.marks;
    details = h.details;
  }

  marked-from : (a c : ObjectsState P) (o n : ℕ) → a.heap.desk.loads ≤ n → IsMarked went (with_loads a n) o c → IsMarked went a o c
  marked-from a c o n le h = record {
    steps = steps-from a c Moved n le h.steps;
    map = h.map;
    has = h.has;
    trail = h.trail;
    used = h.used;
    kept = h.kept;
    null = h.null;
    roots = h.roots;
    maps = h.maps;
    lawful = h.lawful;
  }

  replaced-from : {Dies : ℕ → Type 0} {need : Need} (a c : ObjectsState P) (o n : ℕ) → a.heap.desk.loads ≤ n → HasReplaced went Dies need (with_loads a n) o c → HasReplaced went Dies need a o c
  replaced-from a c o n le h = record {
    steps = steps-from a c Moved n le h.steps;
    fast = h.fast;
    kept = h.kept;
    null = h.null;
    left = h.left;
    needs = h.needs;
    protos = h.protos;
    marks = h.marks;
    lawful = h.lawful;
  }

  migrated-from : (a c : ObjectsState P) (o n : ℕ) → a.heap.desk.loads ≤ n → HasMigrated went (with_loads a n) o c → HasMigrated went a o c
  migrated-from a c o n le h = record {
    map = h.map;
    now = h.now;
    proto = h.proto;
    has = h.has;
    comes = h.comes;
    dead = h.dead;
    shared = h.shared;
    prototype = h.prototype;
    room = h.room;
    walked = h.walked;
    known = h.known;
    replaced = replaced-from a c o n le h.replaced;
    place = h.place;
  }

  generalised-from : (a c : ObjectsState P) (o i : ℕ) (held : Held) (n : ℕ) → a.heap.desk.loads ≤ n → HasGeneralised went (with_loads a n) o i held c → HasGeneralised went a o i held c
  generalised-from a c o i held n le h = record {
    map = h.map;
    gate = h.gate;
    detail = h.detail;
    has = h.has;
    is_open = h.is_open;
    own = h.own;
    live = h.live;
    entry = h.entry;
    outgrown = h.outgrown;
    room = h.room;
    asked = record {
      before = h.asked.before;
      admitted = h.asked.admitted;
      was = h.asked.was;
      property = h.asked.property;
      constness = h.asked.constness;
      right = h.asked.right;
      asked = h.asked.asked;
    };
    replaced = replaced-from a c o n le h.replaced;
    details = h.details;
    comes = h.comes;
  }

  move-from : (a c : ObjectsState P) (move : Move) (n : ℕ) → a.heap.desk.loads ≤ n → IsMove went (with_loads a n) move c → IsMove went a move c
  move-from a c (Marked o) n le h = marked-from a c o n le h
  move-from a c (Became p) n le h = become-from a c p n le h
  move-from a c (Left o cause) n le h = left-from a c o cause n le h
  move-from a c (Migrated o) n le h = migrated-from a c o n le h
  move-from a c (Generalised o i held) n le h = generalised-from a c o i held n le h

  pub move-before : (a b c : ObjectsState P) (move : Move) → IsStill a b → IsMove went b move c → IsMove went a move c
  move-before a b c move still h = move-from a c move b.heap.desk.loads still.loads (subst (λ (s : ObjectsState P). IsMove went s move c) still.is h)

  pub steps-before : (a b c : ObjectsState P) (did : Did) → IsStill a b → Steps went b did c → Steps went a did c
  steps-before a b c did still h = steps-from a c did b.heap.desk.loads still.loads (subst (λ (s : ObjectsState P). Steps went s did c) still.is h)

  pub made-before : (a b c : ObjectsState P) (did : Did) → IsStill a b → Made went b did c → Made went a did c
  made-before a b c did still h = made-from a c did b.heap.desk.loads still.loads (subst (λ (s : ObjectsState P). Made went s did c) still.is h)

  -- something, and then loads
  steps-upto : (a b : ObjectsState P) (did : Did) (n : ℕ) → b.heap.desk.loads ≤ n → Steps went a did b → Steps went a did (with_loads b n)
  steps-upto a b did n le h = record {
    world = h.world;
    shape = h.shape;
    goes = record { board = h.goes.board; trail = h.goes.trail; loads = omega (arith, le, h.goes.loads); met = h.goes.met };
    went = h.went;
    keeps = h.keeps;
  }

  one-upto : (a b : ObjectsState P) (o : ℕ) (given : Option Cause) (room : Type 0) (n : ℕ) → IsOne a o given room b → IsOne a o given room (with_loads b n)
  one-upto a b o given room n h = record { this = h.this; others = h.others }

  modes-upto : (a b : ObjectsState P) (did : Did) (n : ℕ) → Modes a did b → Modes a did (with_loads b n)
  modes-upto a b Nothing n h = h
  modes-upto a b Moved n h = h
  modes-upto a b (Created proto) n h = record { this = h.this; others = h.others }
  modes-upto a b (Added o p) n h = record { this = h.this; others = h.others }
  modes-upto a b (Wrote o i held) n h = h
  modes-upto a b (Reconfigured o i p) n h = record { same = h.same; other = λ ne. one-upto a b o _ _ n (h.other ne); none = h.none }
  modes-upto a b (Removed o i) n h = record { this = h.this; others = h.others }
  modes-upto a b (Linked o proto) n h = record { this = h.this; others = h.others }
  modes-upto a b (Locked o) n h = record { this = h.this; others = h.others }
  modes-upto a b (Restricted o frozen) n h = record { this = h.this; others = h.others }

  made-upto : (a b : ObjectsState P) (did : Did) (n : ℕ) → b.heap.desk.loads ≤ n → Made went a did b → Made went a did (with_loads b n)
  made-upto a b did n le h = record {
    steps = steps-upto a b did n le h.steps;
    modes = modes-upto a b did n h.modes;
    needs = h.needs;
    protos = h.protos;
    marks = h.marks;
    details = h.details;
  }

  pub made-after : (a b c : ObjectsState P) (did : Did) → Made went a did b → IsStill b c → Made went a did c
  made-after a b c did h still = subst (λ (s : ObjectsState P). Made went a did s) (sym still.is) (made-upto a b did c.heap.desk.loads still.loads h)

-- nothing, from a state to itself and one after the other
pub still-refl : {P : Type 0} (a : ObjectsState P) → IsStill a a
still-refl {P} a = record { is = refl; loads = omega arith }

trail-same : {P : Type 0} (a b : ObjectsState P) → IsStill a b → b.heap.view.trail ≡ a.heap.view.trail
trail-same {P} a b still = ap (λ (s : ObjectsState P). s.heap.view.trail) still.is

world-still : {P : Type 0} (a b : ObjectsState P) → IsStill a b → world_of b ≡ world_of a
world-still {P} a b still = ap (λ (s : ObjectsState P). world_of s) still.is

pub still-on : {P : Type 0} (a b c : ObjectsState P) → IsStill a b → IsStill b c → IsStill a c
still-on {P} a b c x y = record {
  is = y.is ∙ ap (λ (s : ObjectsState P). with_loads s c.heap.desk.loads) x.is;
  loads = omega (arith, x.loads, y.loads);
}

-- The laws of what was done
module _ {P : Type 0} (went : P → List Access → List Access → P → Type 0) where
  pub moves-before : (a b c : ObjectsState P) (moves : List Move) → IsStill a b → AreMoves went b moves c → AreMoves went a moves c
  moves-before a b c [] x y = still-on a b c x y
  moves-before a b c (move ∷ moves) x y = (y.0, move-before went a b y.0 move x y.1, y.2)

  pub moves-after : (a b c : ObjectsState P) (moves : List Move) → AreMoves went a moves b → IsStill b c → AreMoves went a moves c
  moves-after a b c [] x y = still-on a b c x y
  moves-after a b c (move ∷ moves) x y = (x.0, x.1, moves-after x.0 b c moves x.2 y)

  pub moved-before : (a b c : ObjectsState P) → IsStill a b → Moves went b c → Moves went a c
  moved-before a b c x y = record { moves = y.moves; few = y.few; ends = y.ends; are = moves-before a b c y.moves x y.are }

  moved-after : (a b c : ObjectsState P) → Moves went a b → IsStill b c → Moves went a c
  moved-after a b c x y = record { moves = x.moves; few = x.few; ends = x.ends; are = moves-after a b c x.moves x.are y }

  link-same : (a : ObjectsState P) (o : ℕ) (proto : Option ℕ) (n : ℕ) → moves_to_link (with_loads a n) o proto ≡ moves_to_link a o proto
  link-same a o (Some p) n = refl
  link-same a o None n = refl

  before-same : (a : ObjectsState P) (did : Did) (n : ℕ) → moves_before (with_loads a n) did ≡ moves_before a did
  before-same a Nothing n = refl
  before-same a Moved n = refl
  before-same a (Created proto) n = refl
  before-same a (Added o p) n = refl
  before-same a (Wrote o i held) n = refl
  before-same a (Reconfigured o i p) n = refl
  before-same a (Removed o i) n = refl
  before-same a (Linked o proto) n = link-same a o proto n
  before-same a (Locked o) n = refl
  before-same a (Restricted o frozen) n = refl

  pub before-still : (a b : ObjectsState P) (did : Did) → IsStill a b → moves_before b did ≡ moves_before a did
  before-still a b did still = ap (λ (s : ObjectsState P). moves_before s did) still.is ∙ before-same a did b.heap.desk.loads

  effect-before : (a b c : ObjectsState P) (did : Did) → IsStill a b → Effect went b did c → Effect went a did c
  effect-before a b c did x y = record {
    mid = y.mid;
    moves = subst (λ (moves : List Move). AreMoves went a moves y.mid) (before-still a b did x) (moves-before a b y.mid (moves_before b did) x y.moves);
    own = y.own;
  }

  effect-after : (a b c : ObjectsState P) (did : Did) → Effect went a did b → IsStill b c → Effect went a did c
  effect-after a b c did x y = record { mid = x.mid; moves = x.moves; own = made-after went x.mid b c did x.own y }

  pub came-refl : (a : ObjectsState P) → Came went a Nothing a
  came-refl a = still-refl a

  pub came-before : (a b c : ObjectsState P) (did : Did) → Came went a Nothing b → Came went b did c → Came went a did c
  came-before a b c Nothing x y = still-on a b c x y
  came-before a b c Moved x y = moved-before a b c x y
  came-before a b c (Created proto) x y = effect-before a b c (Created proto) x y
  came-before a b c (Added o p) x y = effect-before a b c (Added o p) x y
  came-before a b c (Wrote o i held) x y = effect-before a b c (Wrote o i held) x y
  came-before a b c (Reconfigured o i p) x y = effect-before a b c (Reconfigured o i p) x y
  came-before a b c (Removed o i) x y = effect-before a b c (Removed o i) x y
  came-before a b c (Linked o proto) x y = effect-before a b c (Linked o proto) x y
  came-before a b c (Locked o) x y = effect-before a b c (Locked o) x y
  came-before a b c (Restricted o frozen) x y = effect-before a b c (Restricted o frozen) x y

  pub came-after : (a b c : ObjectsState P) (did : Did) → Came went a did b → Came went b Nothing c → Came went a did c
  came-after a b c Nothing x y = still-on a b c x y
  came-after a b c Moved x y = moved-after a b c x y
  came-after a b c (Created proto) x y = effect-after a b c (Created proto) x y
  came-after a b c (Added o p) x y = effect-after a b c (Added o p) x y
  came-after a b c (Wrote o i held) x y = effect-after a b c (Wrote o i held) x y
  came-after a b c (Reconfigured o i p) x y = effect-after a b c (Reconfigured o i p) x y
  came-after a b c (Removed o i) x y = effect-after a b c (Removed o i) x y
  came-after a b c (Linked o proto) x y = effect-after a b c (Linked o proto) x y
  came-after a b c (Locked o) x y = effect-after a b c (Locked o) x y
  came-after a b c (Restricted o frozen) x y = effect-after a b c (Restricted o frozen) x y

  -- moves leave the tables, and no operation changes the shape
  move-world : (a b : ObjectsState P) (move : Move) → IsMove went a move b → world_of b ≡ world_of a
  move-world a b (Marked o) h = h.steps.world
  move-world a b (Became p) h = h.steps.world
  move-world a b (Left o cause) h = h.steps.world
  move-world a b (Migrated o) h = h.replaced.steps.world
  move-world a b (Generalised o i held) h = h.replaced.steps.world

  pub moves-world : (a b : ObjectsState P) (moves : List Move) → AreMoves went a moves b → world_of b ≡ world_of a
  moves-world a b [] h = ap (λ (s : ObjectsState P). world_of s) h.is
  moves-world a b (move ∷ moves) h = moves-world h.0 b moves h.2 ∙ move-world a h.0 move h.1

  effect-world : (a b : ObjectsState P) (did : Did) → Effect went a did b → world_of b ≡ after did (world_of a)
  effect-world a b did h = h.own.steps.world ∙ ap (λ (w : World). after did w) (moves-world a h.mid (moves_before a did) h.moves)

  pub came-world : (a b : ObjectsState P) (did : Did) → Came went a did b → world_of b ≡ after did (world_of a)
  came-world a b Nothing h = ap (λ (s : ObjectsState P). world_of s) h.is
  came-world a b Moved h = moves-world a b h.moves h.are
  came-world a b (Created proto) h = effect-world a b (Created proto) h
  came-world a b (Added o p) h = effect-world a b (Added o p) h
  came-world a b (Wrote o i held) h = effect-world a b (Wrote o i held) h
  came-world a b (Reconfigured o i p) h = effect-world a b (Reconfigured o i p) h
  came-world a b (Removed o i) h = effect-world a b (Removed o i) h
  came-world a b (Linked o proto) h = effect-world a b (Linked o proto) h
  came-world a b (Locked o) h = effect-world a b (Locked o) h
  came-world a b (Restricted o frozen) h = effect-world a b (Restricted o frozen) h

  pub move-shape : (a b : ObjectsState P) (move : Move) → IsMove went a move b → b.heap.view.shape ≡ a.heap.view.shape
  move-shape a b (Marked o) h = h.steps.shape
  move-shape a b (Became p) h = h.steps.shape
  move-shape a b (Left o cause) h = h.steps.shape
  move-shape a b (Migrated o) h = h.replaced.steps.shape
  move-shape a b (Generalised o i held) h = h.replaced.steps.shape

  pub moves-shape : (a b : ObjectsState P) (moves : List Move) → AreMoves went a moves b → b.heap.view.shape ≡ a.heap.view.shape
  moves-shape a b [] h = ap (λ (s : ObjectsState P). s.heap.view.shape) h.is
  moves-shape a b (move ∷ moves) h = moves-shape h.0 b moves h.2 ∙ move-shape a h.0 move h.1

  effect-shape : (a b : ObjectsState P) (did : Did) → Effect went a did b → b.heap.view.shape ≡ a.heap.view.shape
  effect-shape a b did h = h.own.steps.shape ∙ moves-shape a h.mid (moves_before a did) h.moves

  pub came-shape : (a b : ObjectsState P) (did : Did) → Came went a did b → b.heap.view.shape ≡ a.heap.view.shape
  came-shape a b Nothing h = ap (λ (s : ObjectsState P). s.heap.view.shape) h.is
  came-shape a b Moved h = moves-shape a b h.moves h.are
  came-shape a b (Created proto) h = effect-shape a b (Created proto) h
  came-shape a b (Added o p) h = effect-shape a b (Added o p) h
  came-shape a b (Wrote o i held) h = effect-shape a b (Wrote o i held) h
  came-shape a b (Reconfigured o i p) h = effect-shape a b (Reconfigured o i p) h
  came-shape a b (Removed o i) h = effect-shape a b (Removed o i) h
  came-shape a b (Linked o proto) h = effect-shape a b (Linked o proto) h
  came-shape a b (Locked o) h = effect-shape a b (Locked o) h
  came-shape a b (Restricted o frozen) h = effect-shape a b (Restricted o frozen) h

  -- Moves before an operation: an object was made live, or fit for a store, by one move at most
  no-move : (a b : ObjectsState P) → IsStill a b → Moves went a b
  no-move a b still = record { moves = []; few = omega arith; ends = tt; are = still }

  left-move : (a b : ObjectsState P) (o : ℕ) → HasLeft went a o Space b → Moves went a b
  left-move a b o h = record { moves = Left o Space ∷ []; few = omega arith; ends = tt; are = (b, h, still-refl b) }

  pub live-moves : (a b : ObjectsState P) (o : ℕ) → IsMadeLive went a o b → Moves went a b
  live-moves a b o h = by h.came
    where
      by : WasLive a o b ⊎ (HasMigrated went a o b ⊎ LeftDead went a o b) → Moves went a b
      by (inl it) = no-move a b it.still
      by (inr (inl it)) = record { moves = Migrated o ∷ []; few = omega arith; ends = tt; are = (b, it, still-refl b) }
      by (inr (inr it)) = left-move a b o it.left

  pub fit-moves : (a b : ObjectsState P) (o i : ℕ) (held : Held) → IsMadeFit went a o i held b → Moves went a b
  fit-moves a b o i held h = by h.came
    where
      by : WasFit a o i held b ⊎ (HasGeneralised went a o i held b ⊎ LeftUnfit went a o i held b) → Moves went a b
      by (inl it) = no-move a b it.still
      by (inr (inl it)) = record { moves = Generalised o i held ∷ []; few = omega arith; ends = tt; are = (b, it, still-refl b) }
      by (inr (inr it)) = left-move a b o it.left

  pub fit_for-moves : (a b : ObjectsState P) (o i : ℕ) (p : Prop) → IsMadeFitFor went a o i p b → Moves went a b
  fit_for-moves a b o i p (inl it) = fit-moves a b o i p.held it.fit
  fit_for-moves a b o i p (inr it) = no-move a b it.still

  -- loads before it are nothing
  left-before : (a b c : ObjectsState P) (o : ℕ) → IsStill a b → HasLeft went b o Space c → HasLeft went a o Space c
  left-before a b c o still h = move-before went a b c (Left o Space) still h

  lacks-before : (a b : ObjectsState P) (o : ℕ) → IsStill a b → LacksUpdate b o → LacksUpdate a o
  lacks-before a b o still h = update-from went a o b.heap.desk.loads (subst (λ (s : ObjectsState P). LacksUpdate s o) still.is h)

  lacks-store-before : (a b : ObjectsState P) (o i : ℕ) (held : Held) → IsStill a b → LacksStore b o i held → LacksStore a o i held
  lacks-store-before a b o i held still h = store-from went a o i held b.heap.desk.loads (subst (λ (s : ObjectsState P). LacksStore s o i held) still.is h)

  pub live-before : (a b c : ObjectsState P) (o : ℕ) → IsStill a b → IsMadeLive went b o c → IsMadeLive went a o c
  live-before a b c o still h = record { came = by h.came; live = h.live }
    where
      by : WasLive b o c ⊎ (HasMigrated went b o c ⊎ LeftDead went b o c) → WasLive a o c ⊎ (HasMigrated went a o c ⊎ LeftDead went a o c)
      by (inl it) = inl (record { live = subst (λ (t : Trail). IsLive t o) (trail-same a b still) it.live; still = still-on a b c still it.still })
      by (inr (inl it)) = inr (inl (move-before went a b c (Migrated o) still it))
      by (inr (inr it)) = inr (inr (record { why = lacks-before a b o still it.why; left = left-before a b c o still it.left }))

  pub fit-before : (a b c : ObjectsState P) (o i : ℕ) (held : Held) → IsStill a b → IsMadeFit went b o i held c → IsMadeFit went a o i held c
  fit-before a b c o i held still h = record { came = by h.came; fits = h.fits; live = h.live }
    where
      by : WasFit b o i held c ⊎ (HasGeneralised went b o i held c ⊎ LeftUnfit went b o i held c) → WasFit a o i held c ⊎ (HasGeneralised went a o i held c ⊎ LeftUnfit went a o i held c)
      by (inl it) = inl (record { fits = subst (λ (t : Trail). FitsField t o i held) (trail-same a b still) it.fits; still = still-on a b c still it.still })
      by (inr (inl it)) = inr (inl (move-before went a b c (Generalised o i held) still it))
      by (inr (inr it)) = inr (inr (record { why = lacks-store-before a b o i held still it.why; left = left-before a b c o still it.left }))

  pub fit_for-before : (a b c : ObjectsState P) (o i : ℕ) (p : Prop) → IsStill a b → IsMadeFitFor went b o i p c → IsMadeFitFor went a o i p c
  fit_for-before a b c o i p still (inl it) = inl (record { other = subst (λ (w : World). IsOther w o i p) (world-still a b still) it.other; fit = fit-before a b c o i p.held still it.fit })
  fit_for-before a b c o i p still (inr it) = inr (record { none = λ other. it.none (subst (λ (w : World). IsOther w o i p) (sym (world-still a b still)) other); still = still-on a b c still it.still })

  -- and so are loads after it
  replaced-upto : {Dies : ℕ → Type 0} {need : Need} (a b : ObjectsState P) (o n : ℕ) → b.heap.desk.loads ≤ n → HasReplaced went Dies need a o b → HasReplaced went Dies need a o (with_loads b n)
  replaced-upto a b o n le h = record {
    steps = steps-upto went a b Moved n le h.steps;
    fast = h.fast;
    kept = h.kept;
    null = h.null;
    left = h.left;
    needs = h.needs;
    protos = h.protos;
    marks = h.marks;
    lawful = h.lawful;
  }

  left-after : (a b c : ObjectsState P) (o : ℕ) → HasLeft went a o Space b → IsStill b c → HasLeft went a o Space c
  left-after a b c o h still = subst (λ (s : ObjectsState P). HasLeft went a o Space s) (sym still.is) (record {
    steps = steps-upto went a b Moved c.heap.desk.loads still.loads h.steps;
    fast = h.fast;
    why = h.why;
    slow = h.slow;
    used = h.used;
    protos = h.protos;
    others = h.others;
    lawful = h.lawful;
    marks = h.marks;
    details = h.details;
  })

  migrated-after : (a b c : ObjectsState P) (o : ℕ) → HasMigrated went a o b → IsStill b c → HasMigrated went a o c
  migrated-after a b c o h still = subst (λ (s : ObjectsState P). HasMigrated went a o s) (sym still.is) (record {
    map = h.map;
    now = h.now;
    proto = h.proto;
    has = h.has;
    comes = h.comes;
    dead = h.dead;
    shared = h.shared;
    prototype = h.prototype;
    room = h.room;
    walked = h.walked;
    known = h.known;
    replaced = replaced-upto a b o c.heap.desk.loads still.loads h.replaced;
    place = h.place;
  })

  generalised-after : (a b c : ObjectsState P) (o i : ℕ) (held : Held) → HasGeneralised went a o i held b → IsStill b c → HasGeneralised went a o i held c
  generalised-after a b c o i held h still = subst (λ (s : ObjectsState P). HasGeneralised went a o i held s) (sym still.is) (record {
    map = h.map;
    gate = h.gate;
    detail = h.detail;
    has = h.has;
    is_open = h.is_open;
    own = h.own;
    live = h.live;
    entry = h.entry;
    outgrown = h.outgrown;
    room = h.room;
    asked = h.asked;
    replaced = replaced-upto a b o c.heap.desk.loads still.loads h.replaced;
    details = h.details;
    comes = h.comes;
  })

  pub live-after : (a b c : ObjectsState P) (o : ℕ) → IsMadeLive went a o b → IsStill b c → IsMadeLive went a o c
  live-after a b c o h still = record { came = by h.came; live = subst (λ (t : Trail). IsLive t o) (sym (trail-same b c still)) h.live }
    where
      by : WasLive a o b ⊎ (HasMigrated went a o b ⊎ LeftDead went a o b) → WasLive a o c ⊎ (HasMigrated went a o c ⊎ LeftDead went a o c)
      by (inl it) = inl (record { live = it.live; still = still-on a b c it.still still })
      by (inr (inl it)) = inr (inl (migrated-after a b c o it still))
      by (inr (inr it)) = inr (inr (record { why = it.why; left = left-after a b c o it.left still }))

  pub fit-after : (a b c : ObjectsState P) (o i : ℕ) (held : Held) → IsMadeFit went a o i held b → IsStill b c → IsMadeFit went a o i held c
  fit-after a b c o i held h still = record {
    came = by h.came;
    fits = subst (λ (t : Trail). FitsField t o i held) (sym (trail-same b c still)) h.fits;
    live = subst (λ (t : Trail). IsLive t o) (sym (trail-same b c still)) h.live;
  }
    where
      by : WasFit a o i held b ⊎ (HasGeneralised went a o i held b ⊎ LeftUnfit went a o i held b) → WasFit a o i held c ⊎ (HasGeneralised went a o i held c ⊎ LeftUnfit went a o i held c)
      by (inl it) = inl (record { fits = it.fits; still = still-on a b c it.still still })
      by (inr (inl it)) = inr (inl (generalised-after a b c o i held it still))
      by (inr (inr it)) = inr (inr (record { why = it.why; left = left-after a b c o it.left still }))

  pub fit_for-after : (a b c : ObjectsState P) (o i : ℕ) (p : Prop) → IsMadeFitFor went a o i p b → IsStill b c → IsMadeFitFor went a o i p c
  fit_for-after a b c o i p (inl it) still = inl (record { other = it.other; fit = fit-after a b c o i p.held it.fit still })
  fit_for-after a b c o i p (inr it) still = inr (record { none = it.none; still = still-on a b c it.still still })
