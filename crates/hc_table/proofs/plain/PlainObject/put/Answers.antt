use Rattle.std.proofs.Common.{ap, ◌∙◌, set}
use Rattle.hc_table.specs.World.{with_list, holding}
use Rattle.hc_table.specs.Plain.{object_of}
use Rattle.hc_table.proofs.Properties.{set-held_at}
use Rattle.hc_table.proofs.plain.PlainObject.put.Goals as goal

pub returns : goal.returns
returns c =
    let items = c.args.self.now.props.items in
    ap (λ ps. with_list (object_of c.args.self.now) ps)
    (ap (λ p. set items c.args.i (holding p c.args.held)) c.index_mut.ensures.value
    ∙ set-held_at items c.args.i c.args.held c.index_mut.result.now c.requires)
