use Rattle.std.proofs.Common.{◌≡◌, ◌<◌, ◌≤◌, ℕ, Result, Ok, Err, None, length, sym, subst}
use Rattle.std.specs.Prelude.{OnOk}
use Rattle.std.proofs.lemmas.Result.{on_err_weaker}
use Rattle.hc_layout.specs.declared.capacity.TheConstants.{MAX_FAST}
use Rattle.hc_table.specs.Changes.{Added}
use Rattle.hc_table.specs.World.{props_at}
use Rattle.hc_tree.specs.Needs.{HasSpace}
use Rattle.hc_modes.specs.Came.{world_of}
use Rattle.hc_modes.specs.Laws.{made-before, moved-before, still-on}
use Rattle.hc_modes.specs.Meaning.{kept_of}
use Rattle.hc_modes.specs.Modes.{add_need}
use Rattle.hc_modes.specs.State.{ObjectsState}
use Rattle.hc_modes.proofs.Adds.{added-many, added-space}
use Rattle.hc_modes.proofs.objects.Objects.add_to_fast.Goals as goal

pub returns-then-len-ge-MAX_FAST-clause-moved : goal.returns-then-len-ge-MAX_FAST-clause-moved
returns-then-len-ge-MAX_FAST-clause-moved g c = on_err_weaker c.leave_and_add.result
    (λ moves. moved-before g.P.Pace.went c.args.self.now c.len.new.self c.leave_and_add.new.self c.len.ensures.still moves)
    c.leave_and_add.ensures.moved

pub returns-clause-moved : goal.returns-clause-moved
returns-clause-moved g c = on_err_weaker c.leave_and_add-2.result
    (λ moves. moved-before g.P.Pace.went c.args.self.now c.grow.new.self c.leave_and_add-2.new.self
    (still-on c.args.self.now c.len.new.self c.grow.new.self c.len.ensures.still (c.grow.ensures.still c.if-grow.false)) moves)
    c.leave_and_add-2.ensures.moved

-- what three facts of a success make
all-ok : {T E A B C D : Type 0} (r : Result T E) → (A → B → C → D) → OnOk r A → OnOk r B → OnOk r C → OnOk r D
all-ok (Ok x) f a b c = f a b c
all-ok (Err e) f a b c = tt

pub returns-clause-did : goal.returns-clause-did
returns-clause-did g c =
    let a = c.args.self.now in
    let m = c.grow.new.self in
    let b = c.leave_and_add-2.new.self in
    let o = c.args.o in
    let p = c.args.p in
    let did = c.leave_and_add-2.ensures in
    let still = still-on a c.len.new.self m c.len.ensures.still (c.grow.ensures.still c.if-grow.false) in
    let here : length (props_at (world_of a) o) < MAX_FAST = subst (λ (n : ℕ). n < MAX_FAST) c.len.ensures.len c.if-len-ge-MAX_FAST.false in
    let few : length (props_at (world_of m) o) < MAX_FAST = subst (λ (s : ObjectsState g.row.P.Denot). length (props_at (world_of s) o) < MAX_FAST) (sym still.is) here in
    let fast : kept_of m.kept o ≡ None = subst (λ (s : ObjectsState g.row.P.Denot). kept_of s.kept o ≡ None) (sym still.is) c.requires.fast in
    let none : HasSpace m.heap.view (add_need m.heap.view.trail o p) → ⊥ = λ space.
    let yes = c.grow.ensures.room.1 (subst (λ (s : ObjectsState g.row.P.Denot). HasSpace s.heap.view (add_need s.heap.view.trail o p)) (c.grow.ensures.still c.if-grow.false).is space) in
    let no = c.if-grow.false in
    let f : ⊥ = cc in f in
    all-ok c.leave_and_add-2.result
    (λ steps slow marks. made-before g.P.Pace.went a m b (Added o p) still
    (added-space g.P.Pace.went m b o p steps did.protos marks few none fast did.details did.others slow did.used))
    did.added did.cause did.marks

pub returns-then-len-ge-MAX_FAST-clause-did : goal.returns-then-len-ge-MAX_FAST-clause-did
returns-then-len-ge-MAX_FAST-clause-did g c =
    let a = c.args.self.now in
    let m = c.len.new.self in
    let b = c.leave_and_add.new.self in
    let o = c.args.o in
    let p = c.args.p in
    let did = c.leave_and_add.ensures in
    let still = c.len.ensures.still in
    let here : MAX_FAST ≤ length (props_at (world_of a) o) = subst (λ (n : ℕ). MAX_FAST ≤ n) c.len.ensures.len c.if-len-ge-MAX_FAST.true in
    let many : MAX_FAST ≤ length (props_at (world_of m) o) = subst (λ (s : ObjectsState g.row.P.Denot). MAX_FAST ≤ length (props_at (world_of s) o)) (sym still.is) here in
    let fast : kept_of m.kept o ≡ None = subst (λ (s : ObjectsState g.row.P.Denot). kept_of s.kept o ≡ None) (sym still.is) c.requires.fast in
    all-ok c.leave_and_add.result
    (λ steps slow marks. made-before g.P.Pace.went a m b (Added o p) still
    (added-many g.P.Pace.went m b o p steps did.protos marks many fast did.details did.others slow did.used))
    did.added did.cause did.marks
