use Rattle.std.proofs.Common.{option_map, ap, ◌∙◌}
use Rattle.hc_value.specs.declared.reply.Reply.TheVariants.{Property}
use Rattle.hc_table.specs.World.{props_at}
use Rattle.hc_ops.specs.declared.walk.Found.{Found}
use Rattle.hc_ops.proofs.Places.{found_in-property}
use Rattle.hc_ops.proofs.read.own.Goals as goal

pub returns-in_default-clause-reply : goal.returns-in_default-clause-reply
returns-in_default-clause-reply g c =
    let ps = props_at (g.T.Tables.world c.args.t.now) c.args.o in
    ap Property (ap (option_map (λ (f : Found). f.property)) c.in_default.ensures.found ∙ found_in-property ps c.args.name)

pub returns-clause-reply : goal.returns-clause-reply
returns-clause-reply g c =
    let ps = props_at (g.T.Tables.world c.args.t.now) c.args.o in
    ap Property (ap (option_map (λ (f : Found). f.property)) c.in-Some.ensures.found ∙ found_in-property ps c.args.name)
