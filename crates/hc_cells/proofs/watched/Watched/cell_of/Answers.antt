use Rattle.std.proofs.Common.{◌≡◌, ℕ, Some, ◌||◌, length, ap, sym, ◌∙◌, subst, arith}
use Rattle.hc_heap.specs.Readings.{validity_in}
use Rattle.hc_heap.specs.States.{View, HeapState}
use Rattle.hc_cells.specs.Chains.{Ends, chain, has, passes}
use Rattle.hc_cells.specs.Cells.{named_cell, valid_cell, with_cell}
use Rattle.hc_cells.specs.Watched.{AreWatched, is_watched}
use Rattle.hc_cells.proofs.Made.{named-valid}
use Rattle.hc_cells.proofs.Marking.{made-chain, made-ends, made-watched, or-right}
use Rattle.hc_cells.proofs.watched.Watched.cell_of.Goals as goal

pub watch-requires-clause-ends : goal.watch-requires-clause-ends
watch-requires-clause-ends g c =
    let v = c.args.h.now.view in
    let o = c.args.object in
    let ps = c.args.protos.now in
    let same : c.named_cell.new.h.view ≡ v = ap (λ (s : HeapState g.row.P.Denot). s.view) c.named_cell.ensures.same in
    let made : c.new_cell.new.h.view ≡ with_cell v o = c.in_ok-cell.ensures.view ∙ ap (λ w. with_cell w o) same in
    subst (λ (w : View). Ends (length ps) w.trail ps (Some o)) (sym made) (made-ends v o ps o (c.requires.ends o (omega arith)))

pub returns-clause-loads : goal.returns-clause-loads
returns-clause-loads g c =
    let v = c.args.h.now.view in
    let o = c.args.object in
    let ps = c.args.protos.now in
    let same : c.named_cell.new.h.view ≡ v = ap (λ (s : HeapState g.row.P.Denot). s.view) c.named_cell.ensures.same in
    let made : c.new_cell.new.h.view ≡ with_cell v o = c.in_ok-cell.ensures.view ∙ ap (λ w. with_cell w o) same in
    let far : length (chain c.new_cell.new.h.view.trail ps o) ≡ length (chain v.trail ps o) =
    ap (λ (w : View). length (chain w.trail ps o)) made ∙ ap length (made-chain v o ps o) in
    let first = c.named_cell.ensures.loads.most in
    let second = c.new_cell.ensures.loads in
    let third = c.watch.ensures.loads.most in
    omega (arith, far, first, second, third)

pub returns-clause-watched : goal.returns-clause-watched
returns-clause-watched g c =
    let v = c.args.h.now.view in
    let o = c.args.object in
    let ps = c.args.protos.now in
    let same : c.named_cell.new.h.view ≡ v = ap (λ (s : HeapState g.row.P.Denot). s.view) c.named_cell.ensures.same in
    let made : c.new_cell.new.h.view ≡ with_cell v o = c.in_ok-cell.ensures.view ∙ ap (λ w. with_cell w o) same in
    let last : c.watch.new.h.view ≡ with_cell v o = ap (λ (s : HeapState g.row.P.Denot). s.view) c.watch.ensures.same ∙ made in
    let set : (x : ℕ) → is_watched c.watch.new.self x ≡ (passes (with_cell v o).trail ps o x || is_watched c.args.self.now x) =
    λ x. c.watch.ensures.marks x ∙ ap (λ (w : View). passes w.trail ps o x || is_watched c.args.self.now x) made in
    subst (λ (w : View). AreWatched w.trail ps c.watch.new.self) (sym last) (made-watched v o ps c.args.self.now c.watch.new.self set c.requires.watched)

pub returns-in-Some-clause-valid : goal.returns-in-Some-clause-valid
returns-in-Some-clause-valid g c =
    let v = c.args.h.now.view in
    let o = c.args.object in
    let same : c.named_cell.new.h.view ≡ v = ap (λ (s : HeapState g.row.P.Denot). s.view) c.named_cell.ensures.same in
    let named : named_cell v.trail o ≡ Some c.in-Some.cell = sym c.named_cell.ensures.named ∙ c.in-Some.is in
    subst (λ (w : View). validity_in w.trail c.in-Some.cell ≡ Some (valid_cell o)) (sym same) (named-valid v.trail v.used o c.in-Some.cell c.requires.cells named)

pub returns-in-Some-clause-marks : goal.returns-in-Some-clause-marks
returns-in-Some-clause-marks g c o h = or-right (passes c.args.h.now.view.trail c.args.protos.now c.args.object o) (is_watched c.args.self.now o) h

pub returns-in_err-cell-clause-marks : goal.returns-in_err-cell-clause-marks
returns-in_err-cell-clause-marks g c o h = or-right (passes c.args.h.now.view.trail c.args.protos.now c.args.object o) (is_watched c.args.self.now o) h

pub returns-clause-marks : goal.returns-clause-marks
returns-clause-marks g c o h =
    let v = c.args.h.now.view in
    let p = c.args.object in
    let ps = c.args.protos.now in
    let same : c.named_cell.new.h.view ≡ v = ap (λ (s : HeapState g.row.P.Denot). s.view) c.named_cell.ensures.same in
    let made : c.new_cell.new.h.view ≡ with_cell v p = c.in_ok-cell.ensures.view ∙ ap (λ w. with_cell w p) same in
    let set = c.watch.ensures.marks o ∙ ap (λ (w : View). passes w.trail ps p o || is_watched c.args.self.now o) made
    ∙ ap (λ qs. has qs o || is_watched c.args.self.now o) (made-chain v p ps p) in
    sym set ∙ h
