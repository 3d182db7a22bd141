-- Reads of one rest stay so.
use Rattle.std.proofs.Common.{◌≡◌, ℕ, ◌≤◌, List, [], ◌∷◌, ◌++◌, length, length-append, take, sym, ap, ◌∙◌, subst, arith}
use Rattle.std.proofs.lemmas.List.{take-append-le}
use Rattle.hc_board.specs.Fits.{AreOf}
use Rattle.hc_board.specs.Laws.{LongerKeepsWords}
use Rattle.hc_board.specs.States.{WriterState}
use Rattle.hc_board.specs.Trail.{Access}
use Rattle.hc_layout.specs.declared.shape.Shape.{Shape}
use Rattle.hc_heap.specs.Decode.{typed}
use Rattle.hc_heap.specs.Kept.{at as position_at, PositionsAreStores}
use Rattle.hc_heap.specs.States.{Goes, IsDesk, View}
use Rattle.hc_installed.specs.Installed.{AreResting}

longer-are : LongerKeepsWords → (width : ℕ) (trail more : List Access) (position : ℕ) → position ≤ length trail → (reads : List Access) → AreOf width trail position reads → AreOf width (trail ++ more) position reads
unfolding AreOf
longer-are longer width trail more position le [] h = tt
longer-are longer width trail more position le (read ∷ rest) h =
    (longer width trail more position read.0 le ∙ h.0, longer-are longer width trail more position le rest h.1)

pub resting-stays : LongerKeepsWords → PositionsAreStores → (v w : View) (d e : WriterState) (start : ℕ) (reads : List Access) → IsDesk v d → IsDesk w e → w.shape ≡ v.shape → Goes d e → AreResting v d start reads → AreResting w e start reads
resting-stays longer stores v w d e start reads desk later shape goes h =
    let more = goes.trail.more in
    let is = goes.trail.is in
    let p = h.position in
    let are = longer-are longer d.board.words d.trail more p h.upto reads h.are in
    let on-board = subst (λ (n : ℕ). AreOf n (d.trail ++ more) p reads) (ap (λ x. x.words) (sym goes.board)) are in
    let are-on = subst (λ (xs : List Access). AreOf e.board.words xs p reads) (sym is) on-board in
    let front : position_at p v.trail ≡ position_at p w.trail =
    ap (position_at p) desk.trail
    ∙ (sym (stores v.shape d.trail p)
    ∙ (ap (typed v.shape) (sym (take-append-le p d.trail more h.upto) ∙ ap (take p) (sym is))
    ∙ (ap (λ (s : Shape). typed s (take p e.trail)) (sym shape)
    ∙ (stores w.shape e.trail p ∙ ap (position_at p) (sym later.trail))))) in
    let upto = ap length is in
    record {
      position = p;
      since = h.since;
      upto = subst (λ (xs : List Access). p ≤ length xs) (sym is) (longer-than d.trail more p h.upto);
      are = are-on;
      rest = record { earlier = h.rest.earlier; kept = h.rest.kept; shape = h.rest.shape ∙ sym shape; trail = h.rest.trail ∙ front; rest = h.rest.rest };
    }
  where
    longer-than : (xs more : List Access) (p : ℕ) → p ≤ length xs → p ≤ length (xs ++ more)
    longer-than xs more p le = let sum = length-append xs more in omega (arith, sum)
