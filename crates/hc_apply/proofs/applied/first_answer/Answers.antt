use Rattle.std.proofs.Common.{◌≡◌, ◌+◌, ◌*◌, ◌<◌, ◌∙◌, List, length, get_or, subst, arith}
use Rattle.std.specs.Prelude.{◌↔◌, IsTrue, Some}
use Rattle.std.proofs.Math.Nat.{le_refl}
use Rattle.hc_deps.specs.Looks.{MadeLooks, looks-then}
use Rattle.hc_layout.specs.declared.shape.Shape.{Shape}
use Rattle.hc_plan.specs.declared.case.Case.{Case}
use Rattle.hc_apply.specs.Admits.{Admits, Refuses}
use Rattle.hc_apply.specs.Answers.{answer_on, value_looks}
use Rattle.hc_apply.proofs.Bounds.{case-more}
use Rattle.hc_apply.proofs.Cases.{first-answers, item-at, all-more}
use Rattle.hc_apply.proofs.applied.first_answer.Goals as goal

pub returns-then-admits_case-clause-answer : goal.returns-then-admits_case-clause-answer
returns-then-admits_case-clause-answer g c = λ words told.
    let here : c.loop-number.number < length c.args.cases.now = omega (arith, c.len-number-end.ensures, c.loop-number-test.true) in
    let is = subst (λ (xs : List Case). c.index-items-number.result ≡ get_or xs c.loop-number.number c.index-items-number.result) c.as_slice-items.ensures c.index-items-number.is in
    let still = c.loop-number.invariant.looks.same ∙ told in
    let asked = subst (λ (s : Shape). IsTrue c.admits_case.result ↔ Admits s words c.args.room c.args.object c.args.value.now c.index-items-number.result) c.loop-number.invariant.shape
    (c.admits_case.ensures.answer words still) in
    first-answers c.args.peek.now.shape words c.args.room c.args.object c.args.value.now c.args.cases.now c.answered.result (record {
      number = c.loop-number.number;
      case = c.index-items-number.result;
      here = item-at c.args.cases.now c.loop-number.number c.index-items-number.result here is;
      before = c.loop-number.invariant.refused words told;
      admits = asked.0 c.if-admits_case.true;
      answers = subst (λ (s : Shape). answer_on s words c.args.object c.args.value.now c.loop-number.number c.index-items-number.result.way ≡ Some c.answered.result)
          (c.admits_case.ensures.shape ∙ c.loop-number.invariant.shape) (c.answered.ensures.answer words (c.admits_case.ensures.looks.same ∙ still));
    })

pub returns-then-admits_case-clause-looks : goal.returns-then-admits_case-clause-looks
returns-then-admits_case-clause-looks g c =
    let here : c.loop-number.number < length c.args.cases.now = omega (arith, c.len-number-end.ensures, c.loop-number-test.true) in
    let more = case-more c.loop-number.number (length c.args.cases.now) (value_looks c.args.value.now) here in
    let first : MadeLooks g.L.Look.image g.L.Look.looked 0 (length c.args.cases.now * value_looks c.args.value.now) c.args.peek.now.look.now c.admits_case.new.peek.look.now =
    looks-then g.met.L.Look.goes_on c.loop-number.invariant.looks c.admits_case.ensures.looks (omega arith) more in
    looks-then g.met.L.Look.goes_on first c.answered.ensures.looks (omega arith) (le_refl (length c.args.cases.now * value_looks c.args.value.now + 2))

pub loop-number-preserved : goal.loop-number-preserved
loop-number-preserved g c =
    let here : c.loop-number.number < length c.args.cases.now = omega (arith, c.len-number-end.ensures, c.loop-number-test.true) in
    record {
      looks = looks-then g.met.L.Look.goes_on c.loop-number.invariant.looks c.admits_case.ensures.looks (omega arith) (case-more c.loop-number.number (c.loop-number.number + 1) (value_looks c.args.value.now) (omega arith));
      refused = λ words told.
          let is = subst (λ (xs : List Case). c.index-items-number.result ≡ get_or xs c.loop-number.number c.index-items-number.result) c.as_slice-items.ensures c.index-items-number.is in
          let asked = subst (λ (s : Shape). IsTrue c.admits_case.result ↔ Admits s words c.args.room c.args.object c.args.value.now c.index-items-number.result) c.loop-number.invariant.shape
          (c.admits_case.ensures.answer words (c.loop-number.invariant.looks.same ∙ told)) in
          all-more (Refuses c.args.peek.now.shape words c.args.room c.args.object c.args.value.now) c.args.cases.now c.loop-number.number c.index-items-number.result here is
          (c.loop-number.invariant.refused words told)
          (λ admits. let t = asked.1 admits in let f = c.if-admits_case.false in grind (arith, t, f));
      same_reference = c.admits_case.ensures.same_reference ∙ c.loop-number.invariant.same_reference;
      shape = c.admits_case.ensures.shape ∙ c.loop-number.invariant.shape;
    }
