use Rattle.std.proofs.Common.{◌∙◌, List, ap}
use Rattle.hc_value.specs.declared.prop.Prop.{Prop}
use Rattle.hc_dict.specs.declared.dictionary.Dictionary.{Dictionary}
use Rattle.hc_dict.specs.Held.{held-set}
use Rattle.hc_dict.proofs.dictionary.Dictionary.write.Goals as goal

pub returns : goal.returns
returns c =
    let d = c.args.self.now in
    record { written = ap (λ (ps : List Prop). let e : Dictionary = record d { props = ps } in e) (c.set.ensures.put ∙ held-set d.props c.args.i c.prop-prop.result c.args.held c.prop-prop.ensures.prop) }
