use Rattle.std.proofs.Common.{◌≡◌, sym, ap, ◌∙◌, length, subst}
use Rattle.std.specs.Prelude.{◌↔◌, IsTrue}
use Rattle.hc_modes.specs.Came.{world_of}
use Rattle.hc_modes.specs.State.{ObjectsState}
use Rattle.hc_objects.proofs.Told.{count-told}
use Rattle.hc_objects.proofs.objects.Objects.is_full.Goals as goal

pub returns : goal.returns
returns g c =
    let s = c.self.inside.inside in
    let count : c.count.result ≡ length (world_of s) = c.count.ensures.count in
    let most : length c.deref.result.now ≡ s.heap.view.shape.objects = ap length (c.deref.ensures.value ∙ c.self.invariant.told) ∙ count-told s in
    record {
      full = subst (λ (t : ObjectsState g.row.P.Denot). IsTrue c.are_all.result ↔ (length (world_of t) ≡ t.heap.view.shape.objects)) c.self.view_is
          (λ is. sym count ∙ c.are_all.ensures.0 is ∙ most, λ e. c.are_all.ensures.1 (count ∙ e ∙ sym most));
    }
