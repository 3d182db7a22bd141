use Rattle.std.proofs.Common.{◌∙◌, arith}
use Rattle.hc_deps.specs.Looks.{looks-then}
use Rattle.hc_apply.specs.Admits.{AdmitsValue}
use Rattle.hc_apply.proofs.admits.admits_add.Goals as goal

pub returns-clause-answer : goal.returns-clause-answer
returns-clause-answer g c = λ words told.
    let field : AdmitsValue c.args.peek.now.shape words c.args.rep c.args.class c.args.value.now = (c.admits_value.ensures.answer words told).0 c.if-not-admits_value.false in
    let slot = c.has_slot.ensures.answer words (c.admits_value.ensures.looks.same ∙ told) in
    let place = rw c.admits_value.ensures.shape at slot in
    ((λ t. record { field = field; place = place.0 t }), (λ a. place.1 a.place))

pub returns-clause-looks : goal.returns-clause-looks
returns-clause-looks g c = looks-then g.met.L.Look.goes_on c.admits_value.ensures.looks c.has_slot.ensures.looks (omega arith) (omega arith)
