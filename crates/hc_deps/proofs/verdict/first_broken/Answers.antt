use Rattle.std.proofs.Common.{◌∙◌, arith}
use Rattle.hc_plan.specs.declared.deps.Dep.TheVariants.{Live}
use Rattle.hc_deps.specs.Holds.{Holds}
use Rattle.hc_deps.proofs.Firsts.{all-more, first-at, not-held, was-held, most-three}
use Rattle.hc_deps.specs.Looks.{looks-then}
use Rattle.hc_deps.proofs.verdict.first_broken.Goals as goal

pub returns-then-not-holds-clause-first : goal.returns-then-not-holds-clause-first
returns-then-not-holds-clause-first g c = λ words told.
    first-at (Holds c.args.shape words) c.args.deps.now c.loop-dep.dep-index (Live 0) (omega arith) (c.loop-dep.invariant.held words told)
    (not-held (c.holds.ensures.answer words (c.loop-dep.invariant.looks.same ∙ told)) c.if-not-holds.true)

pub returns-then-not-holds-clause-looks : goal.returns-then-not-holds-clause-looks
returns-then-not-holds-clause-looks g c =
    looks-then g.met.L.Look.goes_on c.loop-dep.invariant.looks c.holds.ensures.looks (omega arith) (omega (arith, most-three))

pub loop-dep-preserved : goal.loop-dep-preserved
loop-dep-preserved g c = record {
  looks = looks-then g.met.L.Look.goes_on c.loop-dep.invariant.looks c.holds.ensures.looks (omega arith) (omega (arith, most-three));
  held = λ words told. all-more (Holds c.args.shape words) c.args.deps.now c.loop-dep.dep-index (Live 0) (omega arith) (c.loop-dep.invariant.held words told)
      (was-held (c.holds.ensures.answer words (c.loop-dep.invariant.looks.same ∙ told)) c.if-not-holds.false);
}
