use Rattle.std.proofs.Common.{◌∙◌, ℕ, false, Some, ap}
use Rattle.hc_tree.specs.declared.need.Need.{Need}
use Rattle.hc_tree.specs.Copying.{copy_need}
use Rattle.hc_tree.specs.Needs.{both, slots_alone}
use Rattle.hc_tree.specs.Tree.{tagged_field}
use Rattle.hc_modes.proofs.privates.need_of_growth.Goals as goal

pub returns : goal.returns
returns c key =
    c.with_slots.ensures
    ∙ (ap (λ (x : Need). both x (slots_alone c.slots_needed.result)) (c.of_longer_copy.ensures.need (key, tagged_field))
    ∙ ap (λ (k : ℕ). both (copy_need false (Some (key, tagged_field)) c.args.n) (slots_alone k)) c.slots_needed.ensures.value)
