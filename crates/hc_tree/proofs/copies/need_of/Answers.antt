use Rattle.std.proofs.Common.{◌∙◌, ap, sym}
use Rattle.hc_tree.specs.Copying.{More, copy_need}
use Rattle.hc_tree.proofs.copies.need_of.Goals as goal

pub returns-in-Some : goal.returns-in-Some
returns-in-Some c = c.of_longer_copy.ensures.need c.in-Some.field-0 ∙ ap (λ (more : More). copy_need c.args.fresh more c.args.n) (sym c.in-Some.is)
