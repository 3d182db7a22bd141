-- What fields say stays true, whatever was done.
use Rattle.std.proofs.Common.{◌≡◌, List, [], ◌∷◌, sym, subst}
use Rattle.hc_board.specs.Trail.{Access}
use Rattle.hc_layout.specs.declared.shape.Shape.{Shape}
use Rattle.hc_heap.specs.Lawful.{Lawful}
use Rattle.hc_facts.specs.Laws.{ConstantsStayOn}
use Rattle.hc_table.specs.Changes.{Did, Nothing, Moved, Created, Added, Wrote, Reconfigured, Removed, Linked, Locked, Restricted}
use Rattle.hc_modes.specs.Admitting.{FactsStay}
use Rattle.hc_modes.specs.Came.{AreMoves, Became, Came, Effect, Generalised, IsMove, IsStill, Left, Marked, Migrated, Move, moves_before}
use Rattle.hc_modes.specs.Laws.{move-shape, moves-shape}
use Rattle.hc_modes.specs.State.{ObjectsState}
use Rattle.hc_modes.proofs.Composing.{facts-none, facts-on}

module _ {P : Type 0} (went : P → List Access → List Access → P → Type 0) (constants : ConstantsStayOn) where
  still-keeps : (a b : ObjectsState P) → Lawful a.heap.view.shape a.heap.view.trail → IsStill a b → FactsStay a.heap.view.shape a.heap.view.trail b.heap.view.trail
  still-keeps a b lawful h = subst (λ (s : ObjectsState P). FactsStay a.heap.view.shape a.heap.view.trail s.heap.view.trail) (sym h.is) (facts-none a.heap.view.shape a.heap.view.trail lawful)

  move-keeps : (a b : ObjectsState P) (move : Move) → IsMove went a move b → FactsStay a.heap.view.shape a.heap.view.trail b.heap.view.trail
  move-keeps a b (Marked o) h = h.steps.keeps
  move-keeps a b (Became p) h = h.steps.keeps
  move-keeps a b (Left o cause) h = h.steps.keeps
  move-keeps a b (Migrated o) h = h.replaced.steps.keeps
  move-keeps a b (Generalised o i held) h = h.replaced.steps.keeps

  moves-keep : (a b : ObjectsState P) (moves : List Move) → Lawful a.heap.view.shape a.heap.view.trail → AreMoves went a moves b → FactsStay a.heap.view.shape a.heap.view.trail b.heap.view.trail
  moves-keep a b [] lawful h = still-keeps a b lawful h
  moves-keep a b (move ∷ moves) lawful h =
      let first = move-keeps a h.0 move h.1 in
      let shape : h.0.heap.view.shape ≡ a.heap.view.shape = move-shape went a h.0 move h.1 in
      facts-on constants a.heap.view.shape h.0.heap.view.shape a.heap.view.trail h.0.heap.view.trail b.heap.view.trail shape first
      (moves-keep h.0 b moves (subst (λ (s : Shape). Lawful s h.0.heap.view.trail) (sym shape) first.goes.lawful) h.2)

  effect-keeps : (a b : ObjectsState P) (did : Did) → Lawful a.heap.view.shape a.heap.view.trail → Effect went a did b → FactsStay a.heap.view.shape a.heap.view.trail b.heap.view.trail
  effect-keeps a b did lawful h =
      facts-on constants a.heap.view.shape h.mid.heap.view.shape a.heap.view.trail h.mid.heap.view.trail b.heap.view.trail (moves-shape went a h.mid (moves_before a did) h.moves)
      (moves-keep a h.mid (moves_before a did) lawful h.moves) h.own.steps.keeps

  pub came-keeps : (a b : ObjectsState P) (did : Did) → Lawful a.heap.view.shape a.heap.view.trail → Came went a did b → FactsStay a.heap.view.shape a.heap.view.trail b.heap.view.trail
  came-keeps a b Nothing lawful h = still-keeps a b lawful h
  came-keeps a b Moved lawful h = moves-keep a b h.moves lawful h.are
  came-keeps a b (Created proto) lawful h = effect-keeps a b (Created proto) lawful h
  came-keeps a b (Added o p) lawful h = effect-keeps a b (Added o p) lawful h
  came-keeps a b (Wrote o i held) lawful h = effect-keeps a b (Wrote o i held) lawful h
  came-keeps a b (Reconfigured o i p) lawful h = effect-keeps a b (Reconfigured o i p) lawful h
  came-keeps a b (Removed o i) lawful h = effect-keeps a b (Removed o i) lawful h
  came-keeps a b (Linked o proto) lawful h = effect-keeps a b (Linked o proto) lawful h
  came-keeps a b (Locked o) lawful h = effect-keeps a b (Locked o) lawful h
  came-keeps a b (Restricted o frozen) lawful h = effect-keeps a b (Restricted o frozen) lawful h
