-- What the objects that a command uses keep, whatever is done to them.
use Rattle.std.proofs.Common.{◌≡◌, ℕ, ◌≤◌, Ok, Err, Bool, true, false, List, [], ◌∷◌, ◌++◌, length, length-append, refl, sym, ap, ◌∙◌, subst, arith, Option, Some, None}
use Rattle.std.specs.Prelude.{OnOk, OnErr, Result}
use Rattle.hc_board.specs.Trail.{Access}
use Rattle.hc_layout.specs.declared.shape.Shape.{Shape as Shapes}
use Rattle.hc_value.specs.declared.memory.Memory.{Memory}
use Rattle.hc_value.specs.declared.value.Value.{Value}
use Rattle.hc_access.specs.Accesses.{AskedCell}
use Rattle.hc_commands.specs.declared.command.Command.{Command}
use Rattle.hc_commands.specs.declared.command.Command.TheVariants.{Shape, Same, Exec, Step, Finish}
use Rattle.hc_modes.specs.State.{ObjectsState}
use Rattle.hc_objects.specs.Came.{Came, MadeLive, Moves, world_of}
use Rattle.hc_objects.specs.Laws.{came-shape, came-stands, came-world, live-moves}
use Rattle.hc_table.specs.Changes.{Did, Moved, after}
use Rattle.hc_table.specs.Kept.{with_world}
use Rattle.hc_table.specs.World.{World}
use Rattle.hc_session.specs.Jobs.{HaveMet}
use Rattle.hc_session.specs.Plain.{is_beside}
use Rattle.hc_session.specs.Standing.{tables_of}
use Rattle.hc_session.specs.State.{Became, Used}
use Rattle.hc_objects.specs.State.{IsStanding}
use Rattle.hc_session.specs.Using.{AreReadied, MovesInWant, named_if, object_of, proto_of, uses_if, uses_of}
use mathlib.Core.Logic.{inl, inr}

-- How many a command uses

named-few : (o : Option ℕ) → length (named_if o) ≤ 1
named-few None = omega arith
named-few (Some o) = omega arith

both-few : (x y : Option ℕ) → length (named_if x ++ named_if y) ≤ 3
both-few x y = omega (arith, length-append (named_if x) (named_if y), named-few x, named-few y)

uses-few : (command : Command) → length (uses_of command) ≤ 3
uses-few (Shape o) = omega arith
uses-few (Same a b) = omega arith
uses-few command = both-few (object_of command) (proto_of command)

pub few-used : (accepted : Bool) (command : Command) → length (uses_if accepted command) ≤ 3
few-used true command = uses-few command
few-used false command = omega arith

module _ {P : Type 0} (went : P → List Access → List Access → P → Type 0) where
  -- Migrations, one after another

  pub readied-both : (xs ys : List ℕ) (a b c : ObjectsState P) → AreReadied went a xs b → AreReadied went b ys c → AreReadied went a (xs ++ ys) c
  readied-both [] ys a b c first second = subst (λ (s : ObjectsState P). AreReadied went s ys c) first second
  readied-both (x ∷ xs) ys a b c first second = (first.0, first.1, readied-both xs ys first.0 b c first.2 second)

  -- what moves keep
  pub readied-keeps : (K : ObjectsState P → Type 0) → ((x y : ObjectsState P) → IsStanding x → IsStanding y → Moves went x y → K x → K y) → (uses : List ℕ) (a b : ObjectsState P) → IsStanding a → AreReadied went a uses b → K a → IsStanding b × K b
  readied-keeps K law [] a b sound readied k = subst (λ (s : ObjectsState P). IsStanding s × K s) (sym readied) (sound, k)
  readied-keeps K law (o ∷ os) a b sound readied k =
      let moves = live-moves went a readied.0 o readied.1 in
      let now = came-stands went a readied.0 Moved sound moves in
      readied-keeps K law os readied.0 b now readied.2 (law a readied.0 sound now moves k)

  -- what becomes of property tables
  pub came-tables : (a b : ObjectsState P) (did : Did) → Came went a did b → tables_of b ≡ with_world (tables_of a) (after did (world_of a))
  came-tables a b did came =
      ap (λ (w : World). record { world = w; limit = b.heap.view.shape.objects }) (came-world went a b did came)
      ∙ ap (λ (s : Shapes). record { world = after did (world_of a); limit = s.objects }) (came-shape went a b did came)

  -- the property tables are the same
  pub moved-tables : (a b : ObjectsState P) → Moves went a b → tables_of b ≡ tables_of a
  moved-tables a b moves =
      ap (λ (w : World). record { world = w; limit = b.heap.view.shape.objects }) (came-world went a b Moved moves)
      ∙ ap (λ (s : Shapes). record { world = world_of a; limit = s.objects }) (came-shape went a b Moved moves)

  pub live-tables : (a b : ObjectsState P) (o : ℕ) → MadeLive went a o b → tables_of b ≡ tables_of a
  live-tables a b o live = moved-tables a b (live-moves went a b o live)

  pub readied-tables : (uses : List ℕ) (a b : ObjectsState P) → AreReadied went a uses b → tables_of b ≡ tables_of a
  readied-tables [] a b readied = ap (λ (s : ObjectsState P). tables_of s) readied
  readied-tables (o ∷ os) a b readied = readied-tables os readied.0 b readied.2 ∙ live-tables a readied.0 o readied.1

  pub want-tables : (a b : ObjectsState P) (uses : List ℕ) → MovesInWant went a uses b → tables_of b ≡ tables_of a
  want-tables a b uses want = moved-tables want.ready b want.moves ∙ readied-tables want.first a want.ready want.readied

  -- What became of objects

  -- is what was done, or a cell was asked for, or readers were met
  pub became-by : (C : Type 0) (accepted : Bool) (a b : ObjectsState P) (command : Command) (did : Did) → ((d : Did) → Came went a d b → C) → ((s o : ℕ) (value : Option Value) → command ≡ Exec s o value → accepted ≡ true → AskedCell went a b → C) → (HaveMet a b → C) → Became went accepted a command did b → C
  became-by C accepted a b (Exec s o value) did first second third (inl came) = first did came
  became-by C accepted a b (Exec s o value) did first second third (inr asked) = second s o value refl asked.0 asked.2
  became-by C accepted a b (Step j reads) did first second third (inl came) = first did came
  became-by C accepted a b (Step j reads) did first second third (inr met) = third met.1
  became-by C accepted a b (Finish j) did first second third (inl came) = first did came
  became-by C accepted a b (Finish j) did first second third (inr met) = third met.1
  became-by C accepted a b command did first second third came = first did came

  -- what everything keeps that is done
  abbrev pub IsKept : (ObjectsState P → Type 0) → Type 0
  IsKept K = (x y : ObjectsState P) (did : Did) → IsStanding x → IsStanding y → Came went x did y → K x → K y

  -- and what questions for cells keep, where the command may ask one
  abbrev pub IsKeptAsking : (ObjectsState P → Type 0) → Command → Type 0
  IsKeptAsking K command = (s o : ℕ) (value : Option Value) → command ≡ Exec s o value → (x y : ObjectsState P) → AskedCell went x y → K x → K y

  -- and what readers keep that are met
  abbrev pub IsKeptMeeting : (ObjectsState P → Type 0) → Type 0
  IsKeptMeeting K = (x y : ObjectsState P) → HaveMet x y → K x → K y

  pub used-keeps : (K : ObjectsState P → Type 0) → IsKept K → IsKeptMeeting K → (a b : ObjectsState P) (accepted : Bool) (command : Command) (did : Did) → IsKeptAsking K command → IsStanding a → IsStanding b → Used went a accepted command did b → K a → K b
  used-keeps K kept meeting a b accepted command did asking sound now used k =
      let ready = readied-keeps K (λ x y first second moves. kept x y Moved first second moves) (uses_if accepted command) a used.ready sound used.readied k in
      became-by (K b) accepted used.ready b command did
      (λ d came. kept used.ready b d ready.0 now came ready.1)
      (λ s o value is yes_it_is asked. asking s o value is used.ready b asked ready.1)
      (λ met. meeting used.ready b met ready.1) used.done

  pub want-keeps : (K : ObjectsState P → Type 0) → IsKept K → (a b : ObjectsState P) (uses : List ℕ) → IsStanding a → IsStanding b → MovesInWant went a uses b → K a → K b
  want-keeps K kept a b uses sound now want k =
      let ready = readied-keeps K (λ x y first second moves. kept x y Moved first second moves) want.first a want.ready sound want.readied k in
      kept want.ready b Moved ready.0 now want.moves ready.1

  -- what a result says
  pub result-keeps : (R : Type 0) (K : ObjectsState P → Type 0) → IsKept K → IsKeptMeeting K → (a b : ObjectsState P) (accepted : Bool) (command : Command) (did : Did) (r : Result R Memory) → IsKeptAsking K command → IsStanding a → IsStanding b → OnOk r (Used went a accepted command did b) → OnErr r (MovesInWant went a (uses_if accepted command) b) → K a → K b
  result-keeps R K kept meeting a b accepted command did (Ok reply) asking sound now used want k = used-keeps K kept meeting a b accepted command did asking sound now used k
  result-keeps R K kept meeting a b accepted command did (Err fault) asking sound now used want k = want-keeps K kept a b (uses_if accepted command) sound now want k

  -- a command on objects asks for no cell
  pub not-asking : (K : ObjectsState P → Type 0) (command : Command) → is_beside command ≡ false → IsKeptAsking K command
  not-asking K command on s o value is x y asked k =
      let f : ⊥ = cc (ap (λ (c : Command). is_beside c) is, on) in absurd f

  -- one object was migrated, or moved at most
  pub ready-good : {R : Type 0} (a b : ObjectsState P) (o : ℕ) (C : Type 0) (r : Result R Memory) → (Came went a Moved b → C) → OnOk r (AreReadied went a (o ∷ []) b) → OnErr r (Moves went a b) → C
  ready-good {R} a b o C (Ok x) law readied moves = law (subst (λ (s : ObjectsState P). Came went a Moved s) (sym readied.2) (live-moves went a readied.0 o readied.1))
  ready-good {R} a b o C (Err fault) law readied moves = law moves
