-- The objects that a command uses.
use Rattle.std.proofs.Common.{◌≡◌, ℕ, ◌<◌, Ok, Err, Bool, true, false, ◌&&◌, List, [], ◌∷◌, ◌++◌, length, append_assoc, append-nil, Option, Some, None, refl, sym, ap, ◌∙◌, subst}
use Rattle.std.specs.Prelude.{IfOk, OnOk, OnErr, Result, if◌then◌else◌}
use Rattle.std.proofs.lemmas.Bool.{ltb-true}
use Rattle.hc_board.specs.Trail.{Access}
use Rattle.hc_heap.specs.Decode.{typed}
use Rattle.hc_heap.specs.States.{IsDesk, OnlyLoads}
use Rattle.hc_heap.specs.Writes.{Trail}
use Rattle.hc_layout.specs.declared.shape.Shape.{Shape as Shapes}
use Rattle.hc_modes.specs.State.{IsLive, ObjectsState}
use Rattle.hc_objects.specs.Came.{Came, MadeLive, Moves, world_of}
use Rattle.hc_objects.specs.Laws.{came-refl, came-shape, live-moves, once-moves}
use Rattle.hc_ops.specs.Act.{Act}
use Rattle.hc_table.specs.Changes.{Did, Moved, Nothing, IsThere, after}
use Rattle.hc_table.specs.Kept.{Kept as Tables, with_world}
use Rattle.hc_table.specs.World.{World}
use Rattle.hc_value.specs.declared.memory.Memory.{Memory}
use Rattle.hc_value.specs.declared.reply.Reply.{Reply}
use Rattle.hc_value.specs.declared.reply.Reply.TheVariants.{Flag, NoObject}
use Rattle.hc_commands.specs.declared.command.Command.{Command}
use Rattle.hc_commands.specs.declared.command.Command.TheVariants.{Get, Set, Define, Has, Own, Delete, Keys, Proto, SetProto, Extensible, Lock, Seal, Freeze, Shape, Same, Exec, Step, Finish}
use Rattle.hc_session.specs.Standing.{tables_of}
use Rattle.hc_session.specs.State.{Became, Used, did_in_want}
use Rattle.hc_session.specs.Tables.{AnswersOnTables, IsOnTables, IsReplyOf, act_of, act_there, all_among, all_there, did_by, did_in, is_among, proto_among, says}
use Rattle.hc_session.specs.Using.{AreReadied, MovesInWant, named_if, object_of, proto_of, uses_if, uses_of}
use Rattle.hc_session.proofs.Readied.{came-tables, moved-tables, readied-both}
use mathlib.Core.Logic.{inl}

module _ {P : Type 0} (went : P → List Access → List Access → P → Type 0) (a b : ObjectsState P) (o : ℕ) where
  pub result-readied : {R : Type 0} (r : Result R Memory) → OnOk r (MadeLive went a o b) → OnOk r (AreReadied went a (o ∷ []) b)
  result-readied {R} (Ok x) made = (b, made, refl)
  result-readied {R} (Err fault) made = tt

  pub result-tables : {R : Type 0} (r : Result R Memory) → OnOk r (MadeLive went a o b) → OnErr r (Moves went a b) → tables_of b ≡ tables_of a
  result-tables {R} (Ok x) made moves = moved-tables went a b (live-moves went a b o made)
  result-tables {R} (Err fault) made moves = moved-tables went a b moves

  -- where nothing was stored it was live
  was-live : IsDesk a.heap.view a.heap.desk → IsDesk b.heap.view b.heap.desk → MadeLive went a o b → IsLive b.heap.view.trail o → b.heap.desk.trail ≡ a.heap.desk.trail → IsLive a.heap.view.trail o
  was-live first second made live same =
      subst (λ (t : Trail). IsLive t o)
      (second.trail
      ∙ ap (λ (s : Shapes). typed s b.heap.desk.trail) (came-shape went a b Moved (live-moves went a b o made))
      ∙ ap (λ (t : List Access). typed a.heap.view.shape t) same
      ∙ sym first.trail)
      live

  pub result-loads : {R : Type 0} (r : Result R Memory) → IsDesk a.heap.view a.heap.desk → IsDesk b.heap.view b.heap.desk → OnOk r (MadeLive went a o b) → OnOk r (IsLive b.heap.view.trail o) → (IsLive a.heap.view.trail o → OnlyLoads 2 a.heap.desk b.heap.desk)
      → OnOk r (b.heap.desk.trail ≡ a.heap.desk.trail → OnlyLoads 2 a.heap.desk b.heap.desk)
  result-loads {R} (Ok x) first second made live loads = λ same. loads (was-live first second made live same)
  result-loads {R} (Err fault) first second made live loads = tt

-- Which objects are there

among-lt : (count o : ℕ) → is_among count o ≡ true → o < count
among-lt count o e = ltb-true o count e

first-true : (p q : Bool) → (p && q) ≡ true → p ≡ true
first-true true q h = refl
first-true false q h = let f : ⊥ = cc in absurd f

second-true : (p q : Bool) → (p && q) ≡ true → q ≡ true
second-true true q h = h
second-true false q h = let f : ⊥ = cc in absurd f

proto-there : (w : World) (proto : Option ℕ) → proto_among (length w) proto ≡ true → IsThere w proto
proto-there w None e = tt
proto-there w (Some p) e = among-lt (length w) p e

-- the object that a command names as its own is, where each one is that it names
pub its-there : (w : World) (command : Command) → IsOnTables command → all_among (length w) command ≡ true → IsThere w (object_of command)
its-there w (Get o name) on e = among-lt (length w) o e
its-there w (Set o name value) on e = among-lt (length w) o (first-true _ _ e)
its-there w (Define o name d) on e = among-lt (length w) o (first-true _ _ e)
its-there w (Has o name) on e = among-lt (length w) o e
its-there w (Own o name) on e = among-lt (length w) o e
its-there w (Delete o name) on e = among-lt (length w) o e
its-there w (Keys o) on e = among-lt (length w) o e
its-there w (Proto o) on e = among-lt (length w) o e
its-there w (SetProto o proto) on e = among-lt (length w) o (first-true _ _ e)
its-there w (Extensible o) on e = among-lt (length w) o e
its-there w (Lock o) on e = among-lt (length w) o e
its-there w (Seal o) on e = among-lt (length w) o e
its-there w (Freeze o) on e = among-lt (length w) o e
its-there w (Exec s o value) on e = absurd (cc)
its-there w command on e = tt

-- and so is the one that it names as prototype
pub named-there : (w : World) (command : Command) → all_among (length w) command ≡ true → IsThere w (proto_of command)
named-there w (SetProto o proto) e = proto-there w proto (second-true _ _ e)
named-there w command e = tt

-- Want of memory

module _ {P : Type 0} (went : P → List Access → List Access → P → Type 0) where
  pub moves-first : (a b : ObjectsState P) (uses : List ℕ) → Moves went a b → MovesInWant went a uses b
  moves-first a b uses moves = record { first = []; left = uses; split = refl; ready = a; readied = refl; moves = moves }

  pub moves-last : (a ready b : ObjectsState P) (uses : List ℕ) → AreReadied went a uses ready → Moves went ready b → MovesInWant went a uses b
  moves-last a ready b uses readied moves = record { first = uses; left = []; split = sym (append-nil uses); ready = ready; readied = readied; moves = moves }

  -- more are used behind those, or before
  pub moves-before : (a b : ObjectsState P) (xs ys : List ℕ) → MovesInWant went a xs b → MovesInWant went a (xs ++ ys) b
  moves-before a b xs ys want = record {
    first = want.first;
    left = want.left ++ ys;
    split = ap (λ (zs : List ℕ). zs ++ ys) want.split ∙ append_assoc want.first want.left ys;
    ready = want.ready;
    readied = want.readied;
    moves = want.moves;
  }

  pub moves-behind : (a mid b : ObjectsState P) (xs ys : List ℕ) → AreReadied went a xs mid → MovesInWant went mid ys b → MovesInWant went a (xs ++ ys) b
  moves-behind a mid b xs ys readied want = record {
    first = xs ++ want.first;
    left = want.left;
    split = ap (λ (zs : List ℕ). xs ++ zs) want.split ∙ sym (append_assoc xs want.first want.left);
    ready = want.ready;
    readied = readied-both went xs want.first a mid want.ready readied want.readied;
    moves = want.moves;
  }

  -- what an operation left that lacked memory
  pub want-moved : (command : Command) (a b : ObjectsState P) → Came went a (did_in_want command) b → Moves went a b
  want-moved (Keys o) a b came = once-moves went a b (inl came)
  want-moved command a b came = came

  -- what a result says of it
  pub result-first : {R : Type 0} (a b : ObjectsState P) (uses : List ℕ) (r : Result R Memory) → OnErr r (Moves went a b) → OnErr r (MovesInWant went a uses b)
  result-first {R} a b uses (Ok x) moves = tt
  result-first {R} a b uses (Err fault) moves = moves-first a b uses moves

  -- the two objects that a command on property tables may use
  uses-are : (command : Command) → IsOnTables command → uses_of command ≡ named_if (object_of command) ++ named_if (proto_of command)
  uses-are (Shape o) on = absurd (cc)
  uses-are (Same x y) on = absurd (cc)
  uses-are command on = refl

  pub both-readied : {R : Type 0} (a mid b : ObjectsState P) (first second : Option ℕ) (command : Command) (r : Result R Memory) → IsOnTables command → first ≡ object_of command → second ≡ proto_of command → AreReadied went a (named_if first) mid → OnOk r (AreReadied went mid (named_if second) b) → OnOk r (AreReadied went a (uses_of command) b)
  both-readied {R} a mid b first second command (Ok x) on here there one two =
      subst (λ (uses : List ℕ). AreReadied went a uses b) (sym (uses-are command on))
      (readied-both went (named_if (object_of command)) (named_if (proto_of command)) a mid b
      (subst (λ (n : Option ℕ). AreReadied went a (named_if n) mid) here one) (subst (λ (n : Option ℕ). AreReadied went mid (named_if n) b) there two))
  both-readied {R} a mid b first second command (Err fault) on here there one two = tt

  pub both-wanted : {R : Type 0} (a mid b : ObjectsState P) (first second : Option ℕ) (command : Command) (r : Result R Memory) → IsOnTables command → first ≡ object_of command → second ≡ proto_of command → AreReadied went a (named_if first) mid → OnErr r (MovesInWant went mid (named_if second) b) → OnErr r (MovesInWant went a (uses_of command) b)
  both-wanted {R} a mid b first second command (Ok x) on here there one two = tt
  both-wanted {R} a mid b first second command (Err fault) on here there one two =
      subst (λ (uses : List ℕ). MovesInWant went a uses b) (sym (uses-are command on))
      (moves-behind a mid b (named_if (object_of command)) (named_if (proto_of command))
      (subst (λ (n : Option ℕ). AreReadied went a (named_if n) mid) here one) (subst (λ (n : Option ℕ). MovesInWant went mid (named_if n) b) there two))

  pub first-wanted : {R : Type 0} (a b : ObjectsState P) (first : Option ℕ) (command : Command) (r : Result R Memory) → IsOnTables command → first ≡ object_of command → MovesInWant went a (named_if first) b → OnErr r (MovesInWant went a (uses_of command) b)
  first-wanted {R} a b first command (Ok x) on here want = tt
  first-wanted {R} a b first command (Err fault) on here want =
      subst (λ (uses : List ℕ). MovesInWant went a uses b) (sym (uses-are command on))
      (moves-before a b (named_if (object_of command)) (named_if (proto_of command)) (subst (λ (n : Option ℕ). MovesInWant went a (named_if n) b) here want))

  pub unready-want : {R : Type 0} (a b : ObjectsState P) (command : Command) (r : Result R Memory) → all_there (tables_of a) command ≡ true → MovesInWant went a (uses_of command) b → OnErr r (MovesInWant went a (uses_if (all_there (tables_of a) command) command) b)
  unready-want {R} a b command (Ok x) there want = tt
  unready-want {R} a b command (Err fault) there want = subst (λ (x : Bool). MovesInWant went a (uses_if x command) b) (sym there) want

  -- Commands that ask how objects are kept

  -- their objects are migrated where the command is accepted
  pub readied-if : (a b : ObjectsState P) (accepted : Bool) (command : Command) → accepted ≡ true → AreReadied went a (uses_of command) b → AreReadied went a (uses_if accepted command) b
  readied-if a b accepted command is readied = subst (λ (x : Bool). AreReadied went a (uses_if x command) b) (sym is) readied

  pub readied-not : (a : ObjectsState P) (accepted : Bool) (command : Command) → accepted ≡ false → AreReadied went a (uses_if accepted command) a
  readied-not a accepted command is = subst (λ (x : Bool). AreReadied went a (uses_if x command) a) (sym is) refl

  pub same-answers : (a b : ObjectsState P) (x y : ℕ) (flag : Bool) → all_there (tables_of a) (Same x y) ≡ true → Moves went a b → AnswersOnTables (tables_of a) (Same x y) (Flag flag) (tables_of b)
  same-answers a b x y flag there moves =
      let act : act_of (tables_of a) (Same x y) ≡ None = ap (λ (z : Bool). if z then None else Some (says NoObject)) there in
      record {
        reply_is = subst (λ (z : Option Act). IsReplyOf (Same x y) z (Flag flag)) (sym act) tt;
        tables_are = moved-tables went a b moves ∙ sym (ap (λ (z : Option Act). with_world (tables_of a) (after (did_in z) (world_of a))) act);
      }

  -- and nothing else is done
  asks-nothing : (accepted : Bool) → did_in (if accepted then None else Some (says NoObject)) ≡ Nothing
  asks-nothing true = refl
  asks-nothing false = refl

  pub shape-used : (a b : ObjectsState P) (o : ℕ) (r : Result Reply Memory) → OnOk r (AreReadied went a (uses_if (all_there (tables_of a) (Shape o)) (Shape o)) b) → OnOk r (Used went a (all_there (tables_of a) (Shape o)) (Shape o) (did_by (tables_of a) (Shape o)) b)
  shape-used a b o (Ok reply) readied = record { ready = b; readied = readied; done = subst (λ (did : Did). Came went b did b) (sym (asks-nothing (all_there (tables_of a) (Shape o)))) (came-refl went b) }
  shape-used a b o (Err fault) readied = tt

  pub same-used : (a b : ObjectsState P) (x y : ℕ) (r : Result Reply Memory) → OnOk r (AreReadied went a (uses_if (all_there (tables_of a) (Same x y)) (Same x y)) b) → OnOk r (Used went a (all_there (tables_of a) (Same x y)) (Same x y) (did_by (tables_of a) (Same x y)) b)
  same-used a b x y (Ok reply) readied = record { ready = b; readied = readied; done = subst (λ (did : Did). Came went b did b) (sym (asks-nothing (all_there (tables_of a) (Same x y)))) (came-refl went b) }
  same-used a b x y (Err fault) readied = tt

  -- A command on objects as property tables

  became-plain : (accepted : Bool) (command : Command) (did : Did) (a b : ObjectsState P) → IsOnTables command → Came went a did b → Became went accepted a command did b
  became-plain accepted (Exec s o value) did a b on came = absurd (cc)
  became-plain accepted (Step j reads) did a b on came = absurd (cc)
  became-plain accepted (Finish j) did a b on came = absurd (cc)
  became-plain accepted command did a b on came = came

  module _ (a ready b : ObjectsState P) (command : Command) (there : all_there (tables_of a) command ≡ true) (same : tables_of ready ≡ tables_of a) where
    act-there : act_of (tables_of a) command ≡ act_there (tables_of ready) command
    act-there = ap (λ (x : Bool). if x then act_there (tables_of a) command else Some (says NoObject)) there ∙ sym (ap (λ (t : Tables). act_there t command) same)

    pub performed-used : (r : Result Reply Memory) → IsOnTables command → AreReadied went a (uses_of command) ready → OnOk r (Came went ready (did_in (act_there (tables_of ready) command)) b) → OnOk r (Used went a (all_there (tables_of a) command) command (did_by (tables_of a) command) b)
    performed-used (Ok reply) on readied came = record {
      ready = ready;
      readied = subst (λ (x : Bool). AreReadied went a (uses_if x command) ready) (sym there) readied;
      done = became-plain (all_there (tables_of a) command) command (did_by (tables_of a) command) ready b on (subst (λ (x : Option Act). Came went ready (did_in x) b) (sym act-there) came);
    }
    performed-used (Err fault) on readied came = tt

    pub performed-answers : (r : Result Reply Memory) → IfOk r (λ reply. IsReplyOf command (act_there (tables_of ready) command) reply) → OnOk r (Came went ready (did_in (act_there (tables_of ready) command)) b) → IfOk r (λ reply. AnswersOnTables (tables_of a) command reply (tables_of b))
    performed-answers (Ok reply) replied came = record {
      reply_is = subst (λ (x : Option Act). IsReplyOf command x reply) (sym act-there) replied;
      tables_are = came-tables went ready b (did_in (act_there (tables_of ready) command)) came
          ∙ ap (λ (t : Tables). with_world t (after (did_in (act_there (tables_of ready) command)) t.world)) same
          ∙ ap (λ (x : Option Act). with_world (tables_of a) (after (did_in x) (world_of a))) (sym act-there);
    }
    performed-answers (Err fault) replied came = tt

    pub performed-want : (r : Result Reply Memory) → AreReadied went a (uses_of command) ready → OnErr r (Came went ready (did_in_want command) b) → OnErr r (MovesInWant went a (uses_if (all_there (tables_of a) command) command) b)
    performed-want (Ok reply) readied came = tt
    performed-want (Err fault) readied came =
        subst (λ (x : Bool). MovesInWant went a (uses_if x command) b) (sym there) (moves-last a ready b (uses_of command) readied (want-moved command ready b came))

  -- one that is refused
  pub refused-used : (a : ObjectsState P) (command : Command) → IsOnTables command → all_there (tables_of a) command ≡ false → Used went a (all_there (tables_of a) command) command (did_by (tables_of a) command) a
  refused-used a command on not =
      let act : act_of (tables_of a) command ≡ Some (says NoObject) = ap (λ (x : Bool). if x then act_there (tables_of a) command else Some (says NoObject)) not in
      record {
        ready = a;
        readied = subst (λ (x : Bool). AreReadied went a (uses_if x command) a) (sym not) refl;
        done = became-plain (all_there (tables_of a) command) command (did_by (tables_of a) command) a a on (subst (λ (x : Option Act). Came went a (did_in x) a) (sym act) (came-refl went a));
      }

  pub refused-answers : (a : ObjectsState P) (command : Command) → all_there (tables_of a) command ≡ false → AnswersOnTables (tables_of a) command NoObject (tables_of a)
  refused-answers a command not =
      let act : act_of (tables_of a) command ≡ Some (says NoObject) = ap (λ (x : Bool). if x then act_there (tables_of a) command else Some (says NoObject)) not in
      record {
        reply_is = subst (λ (x : Option Act). IsReplyOf command x NoObject) (sym act) refl;
        tables_are = subst (λ (x : Option Act). tables_of a ≡ with_world (tables_of a) (after (did_in x) (world_of a))) (sym act) refl;
      }
