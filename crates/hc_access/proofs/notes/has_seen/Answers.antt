use Rattle.std.proofs.Common.{refl}
use Rattle.hc_access.proofs.Noting.{has-maps, seen-by}
use Rattle.hc_access.proofs.notes.has_seen.Goals as goal

pub returns : goal.returns
returns c =
    seen-by _ c.contains.result c.args.sites.now c.args.s c.feedback.result c.args.map c.contains.ensures.value
    (has-maps c.args.sites.now c.args.s c.feedback.result c.feedback.ensures.value c.feedback.ensures.maps) refl (λ x. refl)
