use Rattle.std.proofs.Common.{ap, ◌∙◌}
use Rattle.hc_table.specs.Plain.{object_of}
use Rattle.hc_table.specs.World.{with_list}
use Rattle.hc_table.proofs.Edits.{remove-removed_at}
use Rattle.hc_table.proofs.plain.PlainObject.take_away.Goals as goal

pub returns : goal.returns
returns c =
    ap (λ ps. with_list (object_of c.args.self.now) ps)
    (c.remove.ensures.items ∙ remove-removed_at c.args.self.now.props.items c.args.i c.requires)
