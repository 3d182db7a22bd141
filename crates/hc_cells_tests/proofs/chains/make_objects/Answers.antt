use Rattle.std.proofs.Common.{◌≡◌, ℕ, ◌+◌, [], ap, sym, ◌∙◌, subst}
use Rattle.hc_layout.specs.declared.shape.Shape.{Shape}
use Rattle.hc_heap.specs.Readings.{map_in}
use Rattle.hc_heap.specs.Writes.{Trail}
use Rattle.hc_cells.specs.Cells.{AreCells}
use Rattle.hc_cells_tests.proofs.Ready.{cells-none}
use Rattle.hc_cells_tests.proofs.chains.make_objects.Goals as goal

pub returns-clause-ready : goal.returns-clause-ready
returns-clause-ready c =
    let w = c.fresh-first.new.self.view in
    let empty : w.trail ≡ [] = ap (λ s. s.view.trail) c.fresh-first.ensures.new ∙ c.requires.empty in
    let first : c.fresh-first.result ≡ 0 = c.fresh-first.ensures.first ∙ ap (λ (u : Shape). u.objects) c.requires.unused in
    record {
      cells = subst (λ (t : Trail). AreCells t w.used) (sym empty) (cells-none w.used);
      slow = λ q. ap (λ (t : Trail). map_in t q) empty;
      objects = ap (λ s. s.view.used.objects) c.fresh-first.ensures.new ∙ ap (λ (n : ℕ). n + 5) first;
    }
