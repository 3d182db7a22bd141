use Rattle.std.proofs.Common.{◌∙◌, arith}
use Rattle.hc_plan.specs.declared.deps.Dep.TheVariants.{Live}
use Rattle.hc_deps.specs.Holds.{HoldsButValue}
use Rattle.hc_deps.proofs.Firsts.{all-more, first-at, not-held, was-held}
use Rattle.hc_deps.specs.Looks.{looks-then}
use Rattle.hc_deps.proofs.broken.first_broken_but_value.Goals as goal

pub returns-then-not-holds_but_value-clause-first : goal.returns-then-not-holds_but_value-clause-first
returns-then-not-holds_but_value-clause-first g c = λ words told.
    first-at (HoldsButValue c.args.shape words) c.args.deps.now c.loop-dep.dep-index (Live 0) (omega arith) (c.loop-dep.invariant.held words told)
    (not-held (c.holds_but_value.ensures.answer words (c.loop-dep.invariant.looks.same ∙ told)) c.if-not-holds_but_value.true)

pub returns-then-not-holds_but_value-clause-looks : goal.returns-then-not-holds_but_value-clause-looks
returns-then-not-holds_but_value-clause-looks g c =
    looks-then g.met.L.Look.goes_on c.loop-dep.invariant.looks c.holds_but_value.ensures.looks (omega arith) (omega arith)

pub loop-dep-preserved : goal.loop-dep-preserved
loop-dep-preserved g c = record {
  looks = looks-then g.met.L.Look.goes_on c.loop-dep.invariant.looks c.holds_but_value.ensures.looks (omega arith) (omega arith);
  held = λ words told. all-more (HoldsButValue c.args.shape words) c.args.deps.now c.loop-dep.dep-index (Live 0) (omega arith) (c.loop-dep.invariant.held words told)
      (was-held (c.holds_but_value.ensures.answer words (c.loop-dep.invariant.looks.same ∙ told)) c.if-not-holds_but_value.false);
}
