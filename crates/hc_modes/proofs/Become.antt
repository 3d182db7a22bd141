-- An object that becomes a prototype: why it is slow then, where it is, and what it needed.
use Rattle.std.proofs.Common.{◌≡◌, ℕ, ◌+◌, ◌≤◌, Bool, true, false, cond, List, Option, Some, None, IsSome, refl, sym, ap, ◌∙◌, subst, arith}
use Rattle.std.specs.Prelude.{option_map}
use Rattle.hc_layout.specs.declared.shape.Shape.{Shape}
use Rattle.hc_layout.specs.declared.shape.Region.TheVariants.{Maps, Entries, Fields, Links, Slots}
use Rattle.hc_value.specs.declared.reply.Cause.{Cause}
use Rattle.hc_heap.specs.Readings.{map_in, root_in}
use Rattle.hc_heap.specs.States.{View, HeapState, IsHeap, one_load}
use Rattle.hc_descs.specs.Entries.{count_of}
use Rattle.hc_tree.specs.declared.need.Need.{Need}
use Rattle.hc_tree.specs.Copying.{copy_need}
use Rattle.hc_tree.specs.Growth.{IsUnmoved}
use Rattle.hc_tree.specs.Needs.{HasSpace, no_need, with_need}
use Rattle.hc_board.specs.Trail.{Access}
use Rattle.hc_modes.specs.Becoming.{HasBecome, IsSettled}
use Rattle.hc_modes.specs.Came.{IsStill}
use Rattle.hc_modes.specs.Changes.{KeptBut}
use Rattle.std.specs.Prelude.{IsTrue}
use Rattle.hc_slots.specs.Meaning.{Dictionary}
use Rattle.hc_modes.specs.Meaning.{cause_in, kept_of}
use Rattle.hc_modes.specs.Modes.{Becomes, if_fast, need_by, proto_need}
use Rattle.hc_modes.specs.State.{IsObjects, ObjectsState}
use Rattle.hc_modes.proofs.Composing.{still-steps}
use Rattle.hc_slots.specs.Cases.{some-of}

-- Needs

-- there is room for nothing
pub space-none : (v : View) → IsHeap v → HasSpace v no_need
space-none v heap =
    let maps = heap.most Maps in
    let entries = heap.most Entries in
    let fields = heap.most Fields in
    let links = heap.most Links in
    let slots = heap.most Slots in
    record { maps = omega (arith, maps); entries = omega (arith, entries); fields = omega (arith, fields); links = omega (arith, links); slots = omega (arith, slots) }

-- nothing was handed out for nothing
pub with-none : (s : Shape) → s ≡ with_need no_need s
with-none s =
    let maps : s.maps ≡ s.maps + 0 = omega arith in
    let entries : s.entries ≡ s.entries + 0 = omega arith in
    let fields : s.fields ≡ s.fields + 0 = omega arith in
    let links : s.links ≡ s.links + 0 = omega arith in
    let slots : s.slots ≡ s.slots + 0 = omega arith in
    ap (λ (n : ℕ). let x : Shape = record s { maps = n } in x) maps
    ∙ ap (λ (n : ℕ). let x : Shape = record s { maps = s.maps + 0; entries = n } in x) entries
    ∙ ap (λ (n : ℕ). let x : Shape = record s { maps = s.maps + 0; entries = s.entries + 0; fields = n } in x) fields
    ∙ ap (λ (n : ℕ). let x : Shape = record s { maps = s.maps + 0; entries = s.entries + 0; fields = s.fields + 0; links = n } in x) links
    ∙ ap (λ (n : ℕ). let x : Shape = record s { maps = s.maps + 0; entries = s.entries + 0; fields = s.fields + 0; links = s.links + 0; slots = n } in x) slots

-- a prototype needs nothing
need-none : (v : View) (p : ℕ) → (root_in v.trail p).is_proto ≡ true → (h : Option ℕ) → need_by h (λ m. cond (root_in v.trail p).is_proto no_need (copy_need true None (count_of v.trail m))) ≡ no_need
need-none v p is None = refl
need-none v p is (Some m) = ap (λ (b : Bool). cond b no_need (copy_need true None (count_of v.trail m))) is

pub proto-none : (v : View) (p : ℕ) → (root_in v.trail p).is_proto ≡ true → proto_need v.trail p ≡ no_need
proto-none v p is = need-none v p is (map_in v.trail p)

-- another object needs what a private copy does
pub proto-copy : (v : View) (p m : ℕ) → (root_in v.trail p).is_proto ≡ false → map_in v.trail p ≡ Some m → proto_need v.trail p ≡ copy_need true None (count_of v.trail m)
proto-copy v p m shared has =
    ap (λ (h : Option ℕ). need_by h (λ x. cond (root_in v.trail p).is_proto no_need (copy_need true None (count_of v.trail x)))) has
    ∙ ap (λ (b : Bool). cond b no_need (copy_need true None (count_of v.trail m))) shared

-- Modes

-- where there is room, an object stays as it is
pub mode-same : (was : Option Cause) (room : Type 0) → room → Becomes was None room was
mode-same (Some c) room h = refl
mode-same None room h = record { stays = (λ e. h, λ r. refl); leaves = tt }

pub cause-some : (kept : List (Option Dictionary)) (p : ℕ) (c : Cause) → cause_in kept p ≡ Some c → IsSome (kept_of kept p)
cause-some kept p c is = by (kept_of kept p) is
  where
    by : (d : Option Dictionary) → option_map (λ x. x.cause) d ≡ Some c → IsSome d
    by (Some d) e = refl
    by None e = let f : ⊥ = cc in absurd f

pub some-cause : (kept : List (Option Dictionary)) (p : ℕ) → IsSome (kept_of kept p) → (c : Cause) × (cause_in kept p ≡ Some c)
some-cause kept p there = let d = some-of (kept_of kept p) there in (d.0.cause, ap (λ (x : Option Dictionary). option_map (λ y. y.cause) x) d.1)

-- a slow object needed nothing
pub slow-need : (kept : List (Option Dictionary)) (p : ℕ) (need : Need) (s : Shape) → IsSome (kept_of kept p) → s ≡ with_need (if_fast (cause_in kept p) need) s
slow-need kept p need s slow = let c = some-cause kept p slow in with-none s ∙ ap (λ (x : Option Cause). with_need (if_fast x need) s) (sym c.1)

-- States

module _ {P : Type 0} where
  -- one load was made
  pub still-read : (a d : ObjectsState P) → d.heap ≡ record a.heap { desk = one_load a.heap.desk } → d.kept ≡ a.kept → d.of_null ≡ a.of_null → IsStill a d
  still-read a d heap kept null =
      let now : HeapState P = record a.heap { desk = one_load a.heap.desk } in
      let then : ObjectsState P = record a { heap = now } in
      let is : d ≡ then =
      ap (λ (x : HeapState P). let s : ObjectsState P = record { heap = x; kept = d.kept; of_null = d.of_null } in s) heap
      ∙ ap (λ (x : List (Option Dictionary)). let s : ObjectsState P = record { heap = now; kept = x; of_null = d.of_null } in s) kept
      ∙ ap (λ (x : Option ℕ). let s : ObjectsState P = record { heap = now; kept = a.kept; of_null = x } in s) null in
      subst (λ (s : ObjectsState P). IsStill a s) (sym is) (record { is = refl; loads = omega arith })

  -- loads were made
  pub still-heap : (a d : ObjectsState P) → IsUnmoved a.heap d.heap → d.kept ≡ a.kept → d.of_null ≡ a.of_null → a.heap.desk.loads ≤ d.heap.desk.loads → IsStill a d
  still-heap a d heap kept null le =
      let now : HeapState P = record a.heap { desk = record a.heap.desk { loads = d.heap.desk.loads } } in
      record {
        is =
            ap (λ (x : HeapState P). let s : ObjectsState P = record { heap = x; kept = d.kept; of_null = d.of_null } in s) heap
            ∙ ap (λ (x : List (Option Dictionary)). let s : ObjectsState P = record { heap = now; kept = x; of_null = d.of_null } in s) kept
            ∙ ap (λ (x : Option ℕ). let s : ObjectsState P = record { heap = now; kept = a.kept; of_null = x } in s) null;
        loads = le;
      }

-- an object that is or was a prototype stays as it is

if-none : (c : Option Cause) → if_fast c no_need ≡ no_need
if-none (Some c) = refl
if-none None = refl

module _ {P : Type 0} (went : P → List Access → List Access → P → Type 0) where
  pub settled-still : ((p : P) (t : List Access) → went p t t p) → (a b : ObjectsState P) (p : ℕ) → IsObjects a.heap.view a.kept a.of_null → IsStill a b → IsTrue (root_in a.heap.view.trail p).is_proto → IsSettled went a p b
  settled-still stays a b p sound still proto =
      let none : proto_need a.heap.view.trail p ≡ no_need = proto-none a.heap.view p proto in
      let room : HasSpace a.heap.view (proto_need a.heap.view.trail p) = subst (λ (n : Need). HasSpace a.heap.view n) (sym none) (space-none a.heap.view sound.heap) in
      let need : if_fast (cause_in a.kept p) (proto_need a.heap.view.trail p) ≡ no_need = ap (λ (n : Need). if_fast (cause_in a.kept p) n) none ∙ if-none (cause_in a.kept p) in
      record {
        steps = still-steps went stays a b sound still;
        mode = subst (λ (s : ObjectsState P). Becomes (cause_in a.kept p) None (HasSpace a.heap.view (proto_need a.heap.view.trail p)) (cause_in s.kept p)) (sym still.is)
            (mode-same (cause_in a.kept p) (HasSpace a.heap.view (proto_need a.heap.view.trail p)) room);
        used = subst (λ (s : ObjectsState P). s.heap.view.used ≡ with_need (if_fast (cause_in s.kept p) (proto_need a.heap.view.trail p)) a.heap.view.used) (sym still.is)
            (with-none a.heap.view.used ∙ ap (λ (n : Need). with_need n a.heap.view.used) (sym need));
        became = subst (λ (s : ObjectsState P). HasBecome p a.heap.view.trail s.heap.view.trail) (sym still.is) (record { proto = proto; protos = λ q other. refl; roots = λ q. refl; maps = λ q other. refl });
        others = subst (λ (s : ObjectsState P). KeptBut p a.kept s.kept) (sym still.is) (record { others = λ q other. refl; there = λ q other lt. lt });
        null = ap (λ (s : ObjectsState P). s.of_null) still.is;
      }
