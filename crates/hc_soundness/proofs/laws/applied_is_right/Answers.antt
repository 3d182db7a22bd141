use Rattle.hc_soundness.proofs.Applying.{applied-right}
use Rattle.hc_soundness.proofs.laws.applied_is_right.Goals as goal

pub returns : goal.returns
returns c = record {
  law = λ v d kept plan room o value applied rest desk h given is.
      applied-right c.words_say.ensures.law c.stores_are_writes.ensures.law c.now_is_image.ensures.law c.holds_as_the_trail_says.ensures.law c.gates_are_open.ensures.law
      c.forms_are_kept.ensures.law c.unused_says_nothing.ensures.law v d kept rest desk plan.name room o plan.op plan.cases value applied h.told given is;
}
