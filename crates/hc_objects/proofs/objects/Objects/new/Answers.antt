use Rattle.std.proofs.Common.{Bool, List, length, false, ap, ◌∙◌}
use Rattle.std.proofs.lemmas.List.{length-replicate}
use Rattle.hc_objects.proofs.Standing.{watching-none}
use Rattle.hc_objects.proofs.objects.Objects.new.Goals as goal

pub invariant_of-result : goal.invariant_of-result
invariant_of-result g c =
    watching-none c.fields_stay_honest.ensures.none c.in_ok-inside.inside c.args.shape c.in_ok-protos.protos.items c.in_ok-watched.watched c.in_ok-inside.ensures.view c.in_ok-inside.ensures.none c.in_ok-protos.ensures.none
    (ap (λ (marks : List Bool). length marks) c.in_ok-watched.ensures.none ∙ length-replicate c.args.shape.objects false)
