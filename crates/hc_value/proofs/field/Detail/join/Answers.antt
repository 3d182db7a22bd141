use Rattle.std.proofs.Common.{◌∙◌, subst}
use Rattle.std.specs.Prelude.{IsTrue}
use Rattle.hc_value.specs.Field.{is_detail_within}
use Rattle.hc_value.proofs.Joins.{detail_join, detail_order, same_detail}
use Rattle.hc_value.proofs.field.Detail.join.Goals as goal

pub returns-clause-least : goal.returns-clause-least
returns-clause-least c = detail_join c.args.self c.args.other _ c.join.ensures.least c.join-2.ensures c.join-3.ensures

pub returns-clause-order : goal.returns-clause-order
returns-clause-order c =
    let least = detail_join c.args.self c.args.other _ c.join.ensures.least c.join-2.ensures c.join-3.ensures in
    (λ h. same_detail _ _ _ _ _ _ c.join.ensures.value c.join-2.ensures c.join-3.ensures ∙ detail_order c.args.self c.args.other h, λ e. subst (λ d. IsTrue (is_detail_within c.args.self d)) e least.left)
