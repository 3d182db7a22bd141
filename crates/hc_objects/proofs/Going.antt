-- Whatever is done, the trail goes on.
use Rattle.std.proofs.Common.{ℕ, List, [], ◌∷◌, refl, sym, ◌∙◌, subst}
use Rattle.hc_board.specs.Trail.{Access}
use Rattle.hc_layout.specs.declared.shape.Shape.{Shape}
use Rattle.hc_facts.specs.Laws.{ConstantsStayOn}
use Rattle.hc_heap.specs.Frames.{goes-further, goes-still}
use Rattle.hc_heap.specs.Kept.{GoesOn}
use Rattle.hc_heap.specs.Lawful.{Lawful}
use Rattle.hc_table.specs.Changes.{Did, Nothing, Moved, Created, Added, Wrote, Reconfigured, Removed, Linked, Locked, Restricted}
use Rattle.hc_modes.specs.Came.{AreMoves, Came as CameBare, Effect as EffectBare, IsMove, IsStill, moves_before, Move, Marked, Became, Left, Migrated, Generalised, Steps}
use Rattle.hc_modes.specs.State.{ObjectsState}
use Rattle.hc_modes.specs.Validity.{OnlyCells}
use Rattle.hc_objects.specs.Came.{Came, Followed, MadeLive, MovesOnce}
use Rattle.hc_objects.specs.Laws.{live-once, over-came, over-once}
use Rattle.hc_objects.specs.Onward.{HasGoneOn}

pub gone-on : {P : Type 0} → ConstantsStayOn → (a b c : ObjectsState P) → HasGoneOn a b → HasGoneOn b c → HasGoneOn a c
gone-on constants a b c x y =
    let first : GoesOn c.heap.view.shape a.heap.view.trail b.heap.view.trail = subst (λ (s : Shape). GoesOn s a.heap.view.trail b.heap.view.trail) (sym y.shape) x.goes in
    record {
      shape = y.shape ∙ x.shape;
      goes = goes-further c.heap.view.shape first y.goes;
      constants = constants c.heap.view.shape a.heap.view.trail b.heap.view.trail c.heap.view.trail first y.goes x.constants y.constants;
    }

-- where the trail was lawful
abbrev IsOnward : {P : Type 0} → ObjectsState P → ObjectsState P → Type 0
IsOnward a b = Lawful a.heap.view.shape a.heap.view.trail → HasGoneOn a b

pub gone-still : {P : Type 0} (a b : ObjectsState P) → IsStill a b → IsOnward a b
gone-still {P} a b still lawful = subst (λ (s : ObjectsState P). HasGoneOn a s) (sym still.is) (record { shape = refl; goes = goes-still a.heap.view.shape lawful; constants = λ o m k f d datum admits const stable. refl })

module _ {P : Type 0} (went : P → List Access → List Access → P → Type 0) where
  by-steps : (a b : ObjectsState P) (did : Did) → Steps went a did b → HasGoneOn a b
  by-steps a b did h = record {
    shape = h.shape;
    goes = subst (λ (s : Shape). GoesOn s a.heap.view.trail b.heap.view.trail) (sym h.shape) h.keeps.goes;
    constants = h.keeps.constants;
  }

  pub gone-cells : (a b : ObjectsState P) → OnlyCells went a b → HasGoneOn a b
  gone-cells a b only = by-steps a b Moved only.steps

  by-move : (a b : ObjectsState P) (move : Move) → IsMove went a move b → HasGoneOn a b
  by-move a b (Marked o) h = by-steps a b Moved h.steps
  by-move a b (Became p) h = by-steps a b Moved h.steps
  by-move a b (Left o cause) h = by-steps a b Moved h.steps
  by-move a b (Migrated o) h = by-steps a b Moved h.replaced.steps
  by-move a b (Generalised o i held) h = by-steps a b Moved h.replaced.steps

  module _ (constants : ConstantsStayOn) where
    further : (a b c : ObjectsState P) → IsOnward a b → IsOnward b c → IsOnward a c
    further a b c x y lawful =
        let one = x lawful in
        gone-on constants a b c one (y one.goes.lawful)

    by-moves : (a b : ObjectsState P) (moves : List Move) → AreMoves went a moves b → IsOnward a b
    by-moves a b [] h = gone-still a b h
    by-moves a b (move ∷ moves) h = further a h.0 b (λ lawful. by-move a h.0 move h.1) (by-moves h.0 b moves h.2)

    by-effect : (a b : ObjectsState P) (did : Did) → EffectBare went a did b → IsOnward a b
    by-effect a b did h = further a h.mid b (by-moves a h.mid (moves_before a did) h.moves) (λ lawful. by-steps h.mid b did h.own.steps)

    by-bare : (a b : ObjectsState P) (did : Did) → CameBare went a did b → IsOnward a b
    by-bare a b Nothing h = gone-still a b h
    by-bare a b Moved h = by-moves a b h.moves h.are
    by-bare a b (Created proto) h = by-effect a b (Created proto) h
    by-bare a b (Added o p) h = by-effect a b (Added o p) h
    by-bare a b (Wrote o i held) h = by-effect a b (Wrote o i held) h
    by-bare a b (Reconfigured o i p) h = by-effect a b (Reconfigured o i p) h
    by-bare a b (Removed o i) h = by-effect a b (Removed o i) h
    by-bare a b (Linked o proto) h = by-effect a b (Linked o proto) h
    by-bare a b (Locked o) h = by-effect a b (Locked o) h
    by-bare a b (Restricted o frozen) h = by-effect a b (Restricted o frozen) h

    by-step : (a b : ObjectsState P) (did : Did) → Followed went a did b → IsOnward a b
    by-step a b did h = further a h.bare b (by-bare a h.bare did h.came) (λ lawful. gone-cells h.bare b h.only)

    pub gone-came : (a b : ObjectsState P) (did : Did) → Came went a did b → IsOnward a b
    gone-came a b did came = over-came went (λ n x y. IsOnward x y) gone-still (λ m n. further) (λ m n x y le h. h) (λ x y. by-step x y Moved) by-step a b did came

    pub gone-once : (a b : ObjectsState P) → MovesOnce went a b → IsOnward a b
    gone-once a b once = over-once went (λ n x y. IsOnward x y) gone-still (λ m n. further) (λ m n x y le h. h) (λ x y. by-step x y Moved) by-step a b once

    pub gone-live : (a b : ObjectsState P) (o : ℕ) → MadeLive went a o b → IsOnward a b
    gone-live a b o made = gone-once a b (live-once went a b o made)
