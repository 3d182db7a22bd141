-- How what was done to objects follows on what was done before.
use Rattle.std.proofs.Common.{◌≡◌, ◌≢◌, ℕ, List, [], ◌∷◌, Option, Some, None, refl, sym, ap, ◌∙◌, subst, arith}
use Rattle.std.specs.Prelude.{option_map}
use Rattle.hc_board.specs.Trail.{Access}
use Rattle.hc_value.specs.declared.reply.Cause.{Cause}
use Rattle.hc_layout.specs.declared.shape.Shape.{Shape}
use Rattle.hc_heap.specs.Writes.{Trail}
use Rattle.hc_heap.specs.Lawful.{Lawful}
use Rattle.hc_heap.specs.Kept.{GoesOn}
use Rattle.hc_heap.specs.Frames.{goes-further, goes-on, goes-still, extends-none}
use Rattle.hc_facts.specs.Laws.{ConstantsStayOn}
use Rattle.hc_heap.specs.States.{Goes}
use Rattle.hc_table.specs.Changes.{Did, Moved, after}
use Rattle.hc_table.specs.World.{World}
use Rattle.hc_modes.specs.Admitting.{FactsStay}
use Rattle.hc_modes.specs.Changes.{KeptBut}
use Rattle.hc_slots.specs.Meaning.{Dictionary}
use Rattle.hc_modes.specs.Meaning.{cause_in, kept_of}
use Rattle.hc_modes.specs.Modes.{IsOne, Becomes, AllStay}
use Rattle.hc_modes.specs.State.{IsObjects, ObjectsState}
use Rattle.hc_modes.specs.Came.{IsStill, Steps, Move, Left, HasLeft, AreMoves, Moves, Made, Effect, moves_before, world_of}
use Rattle.hc_modes.specs.Laws.{still-refl}
use Rattle.hc_slots.specs.Cases.{same-or}

-- What fields say

-- nothing was done
pub facts-none : (s : Shape) (t : Trail) → Lawful s t → FactsStay s t t
facts-none s t lawful = record { goes = goes-still s lawful; constants = λ o m k f d datum admits const stable. refl; honest = λ h. h }

-- one thing was done after another
pub facts-on : ConstantsStayOn → (s r : Shape) (a b c : Trail) → r ≡ s → FactsStay s a b → FactsStay r b c → FactsStay s a c
facts-on law s r a b c same x y = record {
  goes = goes-further s x.goes (subst (λ (q : Shape). GoesOn q b c) same y.goes);
  constants = law s a b c x.goes (subst (λ (q : Shape). GoesOn q b c) same y.goes) x.constants y.constants;
  honest = λ h. y.honest (x.honest h);
}

-- Steps

module _ {P : Type 0} (went : P → List Access → List Access → P → Type 0) where
  -- moves, and then something
  pub steps-on : ((a b c : P) (first second third : List Access) → went a first second b → went b second third c → went a first third c)
      → ConstantsStayOn → (a b c : ObjectsState P) (did : Did) → Steps went a Moved b → Steps went b did c → Steps went a did c
  steps-on law constants a b c did x y = record {
    world = y.world ∙ ap (λ (w : World). after did w) x.world;
    shape = y.shape ∙ x.shape;
    goes = goes-on a.heap.desk b.heap.desk c.heap.desk x.goes y.goes;
    went = law a.heap.pace b.heap.pace c.heap.pace a.heap.desk.trail b.heap.desk.trail c.heap.desk.trail x.went y.went;
    keeps = facts-on constants a.heap.view.shape b.heap.view.shape a.heap.view.trail b.heap.view.trail c.heap.view.trail x.shape x.keeps y.keeps;
  }

  -- nothing is a move
  pub still-steps : ((p : P) (t : List Access) → went p t t p) → (a b : ObjectsState P) → IsObjects a.heap.view a.kept a.of_null → IsStill a b → Steps went a Moved b
  still-steps stays a b sound h = record {
    world = ap (λ (s : ObjectsState P). world_of s) h.is;
    shape = ap (λ (s : ObjectsState P). s.heap.view.shape) h.is;
    goes = subst (λ (s : ObjectsState P). Goes a.heap.desk s.heap.desk) (sym h.is) (record { board = refl; trail = extends-none a.heap.desk.trail; loads = h.loads; met = extends-none a.heap.desk.met });
    went = subst (λ (s : ObjectsState P). went a.heap.pace a.heap.desk.trail s.heap.desk.trail s.heap.pace) (sym h.is) (stays a.heap.pace a.heap.desk.trail);
    keeps = subst (λ (s : ObjectsState P). FactsStay a.heap.view.shape a.heap.view.trail s.heap.view.trail) (sym h.is) (facts-none a.heap.view.shape a.heap.view.trail sound.heap.lawful);
  }

-- Modes

-- the items stay
pub all-stay : {P : Type 0} (a b : ObjectsState P) → b.kept ≡ a.kept → AllStay a b
all-stay {P} a b same = λ p. ap (λ (kept : List (Option Dictionary)). cause_in kept p) same

-- an object that has no dictionary has no cause
pub no-cause : (kept : List (Option Dictionary)) (o : ℕ) → kept_of kept o ≡ None → cause_in kept o ≡ None
no-cause kept o fast = ap (λ (d : Option Dictionary). option_map (λ x. x.cause) d) fast

-- the cause of another object stays
pub cause-but : (kept then : List (Option Dictionary)) (o p : ℕ) → KeptBut o kept then → p ≢ o → cause_in then p ≡ cause_in kept p
cause-but kept then o p but other = ap (λ (d : Option Dictionary). option_map (λ x. x.cause) d) (but.others p other)

-- the items of other objects stay, and then again
pub but-on : (o : ℕ) (a b c : List (Option Dictionary)) → KeptBut o a b → KeptBut o b c → KeptBut o a c
but-on o a b c x y = record {
  others = λ p other. y.others p other ∙ x.others p other;
  there = λ p other lt. x.there p other (y.there p other lt);
}

-- a fast object became slow for the cause that was given
pub left-one : {P : Type 0} (a b : ObjectsState P) (o : ℕ) (cause : Cause) (room : Type 0) → kept_of a.kept o ≡ None → KeptBut o a.kept b.kept → cause_in b.kept o ≡ Some cause → IsOne a o (Some cause) room b
left-one {P} a b o cause room fast but is = record {
  this = subst (λ (was : Option Cause). Becomes was (Some cause) room (cause_in b.kept o)) (sym (no-cause a.kept o fast)) is;
  others = λ p other. cause-but a.kept b.kept o p but other;
}

-- a slow object stays slow for its cause, whatever is given
pub slow-one : {P : Type 0} (a b : ObjectsState P) (o : ℕ) (d : Dictionary) (given : Option Cause) (room : Type 0) → kept_of a.kept o ≡ Some d → KeptBut o a.kept b.kept → cause_in b.kept o ≡ cause_in a.kept o → IsOne a o given room b
slow-one {P} a b o d given room slow but same =
    let was : cause_in a.kept o ≡ Some d.cause = ap (λ (x : Option Dictionary). option_map (λ y. y.cause) x) slow in
    record {
      this = subst (λ (x : Option Cause). Becomes x given room (cause_in b.kept o)) (sym was) (same ∙ was);
      others = λ p other. cause-but a.kept b.kept o p but other;
    }

-- each object stays fast, or slow for its cause, where one object's cause does and the others' items do
pub one-stays : {P : Type 0} (a b : ObjectsState P) (o : ℕ) → KeptBut o a.kept b.kept → cause_in b.kept o ≡ cause_in a.kept o → AllStay a b
one-stays {P} a b o but same = λ p. same-or p o (cause_in b.kept p ≡ cause_in a.kept p)
    (λ is. ap (λ (q : ℕ). cause_in b.kept q) is ∙ same ∙ ap (λ (q : ℕ). cause_in a.kept q) (sym is))
    (λ other. cause-but a.kept b.kept o p but other)

-- Moves and operations

module _ {P : Type 0} (went : P → List Access → List Access → P → Type 0) where
  -- nothing is no move
  pub still-moves : (a b : ObjectsState P) → IsStill a b → Moves went a b
  still-moves a b h = record { moves = []; few = omega arith; ends = tt; are = h }

  -- a fast object became slow, and nothing else was done
  pub left-moves : (a b : ObjectsState P) (o : ℕ) (cause : Cause) → HasLeft went a o cause b → Moves went a b
  left-moves a b o cause h = record { moves = Left o cause ∷ []; few = omega arith; ends = tt; are = (b, h, still-refl b) }

  -- an operation without a move before it
  pub effect-alone : (a b : ObjectsState P) (did : Did) → moves_before a did ≡ [] → Made went a did b → Effect went a did b
  effect-alone a b did none made = record { mid = a; moves = subst (λ (moves : List Move). AreMoves went a moves a) (sym none) (still-refl a); own = made }
