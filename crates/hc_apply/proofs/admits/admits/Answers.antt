use Rattle.std.proofs.Common.{sym, subst}
use Rattle.std.specs.Prelude.{◌↔◌, Option, IsTrue}
use Rattle.hc_value.specs.declared.value.Value.{Value}
use Rattle.hc_apply.specs.Admits.{AdmitsBy}
use Rattle.hc_apply.proofs.admits.admits.Goals as goal

pub returns-in-None-clause-answer : goal.returns-in-None-clause-answer
returns-in-None-clause-answer g c = λ words told.
    subst (λ (v : Option Value). IsTrue c.admits_none.result ↔ AdmitsBy c.args.peek.now.shape words c.args.room c.args.object v c.args.way) (sym c.in-None.is)
    (c.admits_none.ensures c.args.peek.now.shape words c.args.room c.args.object)
