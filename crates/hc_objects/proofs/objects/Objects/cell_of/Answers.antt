use Rattle.std.proofs.Common.{ℕ, Option, List, length, sym, ap, ◌∙◌, subst, arith}
use Rattle.hc_objects.proofs.Told.{count-told}
use Rattle.hc_cells.specs.Watched.{AreWatched}
use Rattle.hc_layout.specs.declared.shape.Shape.{Shape}
use Rattle.hc_objects.proofs.Alone.{alone-faithful}
use Rattle.hc_objects.proofs.Standing.{told-alone}
use Rattle.hc_objects.proofs.objects.Objects.cell_of.Goals as goal

pub cell_of-requires-clause-room : goal.cell_of-requires-clause-room
cell_of-requires-clause-room g c =
    let size = c.self.invariant.size in
    let same = ap length (c.deref.ensures.value ∙ c.self.invariant.told) in
    let count = count-told c.self.inside.inside in
    omega (arith, size, same, count)

pub invariant_of-self : goal.invariant_of-self
invariant_of-self g c =
    let only = c.cell_of.ensures.only in
    let was = c.self.invariant in
    let same = told-alone g.P.Pace.went c.self.inside.inside c.cell_of.new.self only in
    record {
      cells = c.cell_of.ensures.cells;
      told = was.told ∙ sym same;
      watched = subst (λ (ps : List (Option ℕ)). AreWatched c.cell_of.new.self.heap.view.trail ps c.cell_of.new.watched) c.deref.ensures.value c.cell_of.ensures.watched;
      size = c.cell_of.ensures.size ∙ was.size ∙ sym (ap (λ (s : Shape). s.objects) only.steps.shape);
      faithful = alone-faithful g.P.Pace.went c.self.inside.inside c.cell_of.new.self only was.faithful;
    }
