use Rattle.std.proofs.Common.{◌≡◌, ◌<◌, true, Option, Some, ◌∷◌, IfSome, ap, sym, ◌∙◌, subst}
use Rattle.hc_layout.specs.declared.words.CellWord.{CellWord}
use Rattle.hc_heap.specs.Writes.{Trail, Validity}
use Rattle.hc_heap.specs.Readings.{validity_in}
use Rattle.hc_heap.specs.Lawful.{LawfulValidity}
use Rattle.hc_heap.specs.Kept.{Adds}
use Rattle.hc_heap.specs.Frames.{adds-none}
use Rattle.hc_heap.specs.States.{View, HeapState}
use Rattle.hc_cells.specs.Chains.{passes}
use Rattle.hc_cells.specs.Cells.{Invalidates}
use Rattle.hc_cells.proofs.Invalid.{lawful-invalid, one-write}
use Rattle.hc_cells.proofs.cells.invalidate_one.Goals as goal

pub returns-in_default-clause-writes : goal.returns-in_default-clause-writes
returns-in_default-clause-writes g c =
    let t = c.args.h.now.view.trail in
    let same : c.validity.new.self.view.trail ≡ t = ap (λ (s : HeapState g.row.P.Denot). s.view.trail) c.validity.ensures.new in
    subst (λ (x : Trail). Adds (Invalidates t c.args.protos.now c.args.object) t x) (sym same) (adds-none t)

pub returns-then-state-clause-writes : goal.returns-then-state-clause-writes
returns-then-state-clause-writes g c =
    let t = c.args.h.now.view.trail in
    let same : c.validity.new.self.view.trail ≡ t = ap (λ (s : HeapState g.row.P.Denot). s.view.trail) c.validity.ensures.new in
    subst (λ (x : Trail). Adds (Invalidates t c.args.protos.now c.args.object) t x) (sym same) (adds-none t)

pub set_validity-requires-clause-lawful : goal.set_validity-requires-clause-lawful
set_validity-requires-clause-lawful g c =
    let v = c.args.h.now.view in
    let state = c.in-Some.state in
    let read : validity_in v.trail c.args.cell ≡ Some state = cc in
    let there : state.object < v.shape.objects = subst (λ (o : Option CellWord). IfSome o (λ w. w.object < v.shape.objects)) read c.requires.there in
    let first : c.validity.new.self.view ≡ v = ap (λ (s : HeapState g.row.P.Denot). s.view) c.validity.ensures.new in
    let same : c.goes_through.new.h.view ≡ v = ap (λ (s : HeapState g.row.P.Denot). s.view) c.goes_through.ensures.same ∙ first in
    subst (λ (w : View). LawfulValidity w.shape w.trail c.args.cell (record { invalid = true; object = state.object })) (sym same)
    (lawful-invalid v.shape v.trail c.args.cell state there read)

pub returns-then-goes_through-clause-writes : goal.returns-then-goes_through-clause-writes
returns-then-goes_through-clause-writes g c =
    let v = c.args.h.now.view in
    let state = c.in-Some.state in
    let ps = c.args.protos.now in
    let read : validity_in v.trail c.args.cell ≡ Some state = cc in
    let first : c.validity.new.self.view ≡ v = ap (λ (s : HeapState g.row.P.Denot). s.view) c.validity.ensures.new in
    let same : c.goes_through.new.h.view ≡ v = ap (λ (s : HeapState g.row.P.Denot). s.view) c.goes_through.ensures.same ∙ first in
    let word : CellWord = record { invalid = true; object = state.object } in
    let end : c.set_validity.new.self.view.trail ≡ Validity c.args.cell word ∷ v.trail =
    ap (λ (w : View). w.trail) c.set_validity.ensures.view ∙ ap (λ (w : View). Validity c.args.cell word ∷ w.trail) same in
    let through : passes v.trail ps state.object c.args.object ≡ true =
    sym (ap (λ (w : View). passes w.trail ps state.object c.args.object) first) ∙ sym c.goes_through.ensures.through ∙ c.if-goes_through.true in
    subst (λ (x : Trail). Adds (Invalidates v.trail ps c.args.object) v.trail x) (sym end)
    (one-write v.trail ps c.args.object c.args.cell state read c.if-state.false through)

pub returns-else-goes_through-clause-writes : goal.returns-else-goes_through-clause-writes
returns-else-goes_through-clause-writes g c =
    let t = c.args.h.now.view.trail in
    let first : c.validity.new.self.view.trail ≡ t = ap (λ (s : HeapState g.row.P.Denot). s.view.trail) c.validity.ensures.new in
    let same : c.goes_through.new.h.view.trail ≡ t = ap (λ (s : HeapState g.row.P.Denot). s.view.trail) c.goes_through.ensures.same ∙ first in
    subst (λ (x : Trail). Adds (Invalidates t c.args.protos.now c.args.object) t x) (sym same) (adds-none t)
