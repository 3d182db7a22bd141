use Rattle.hc_heap.specs.Frames.{goes-further}
use Rattle.hc_soundness.proofs.Plans.{seen-kept}
use Rattle.hc_soundness.proofs.laws.seen_is_kept.Goals as goal

pub returns : goal.returns
returns c = record {
  law = λ s old new op name case goes h.
      seen-kept c.written_is_kept.ensures.law c.entries_are_kept.ensures.law s old new op name case goes (λ x y z first second. goes-further s first second) h;
}
