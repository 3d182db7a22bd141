use Rattle.std.proofs.Common.{◌≡◌, length, ap, sym, ◌∙◌, arith}
use Rattle.hc_layout.specs.declared.shape.Region.TheVariants.{Objects}
use Rattle.hc_modes.specs.Came.{world_of}
use Rattle.hc_modes.specs.State.{ObjectsState}
use Rattle.hc_modes.proofs.Worlds.{length-world}
use Rattle.hc_modes.proofs.objects.Objects.count.Goals as goal

pub overflow_cast-result : goal.overflow_cast-result
overflow_cast-result g c =
    let items = c.self.invariant.items in
    let most = c.self.invariant.heap.most Objects in
    let shape = c.self.invariant.heap.shape.objects in
    omega (arith, c.len.ensures, items, most, shape)

pub returns-clause-count : goal.returns-clause-count
returns-clause-count g c =
    let len : c.len.result ≡ length c.self.inside.kept.items = omega (arith, c.len.ensures) in
    len
    ∙ sym (length-world c.self.inside.heap.view.trail c.self.inside.kept.items)
    ∙ ap (λ (s : ObjectsState g.row.P.Denot). length (world_of s)) c.self.view_is
