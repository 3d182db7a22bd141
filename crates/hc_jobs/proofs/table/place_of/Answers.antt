use Rattle.std.proofs.Common.{ap, sym, ◌∙◌, arith}
use Rattle.hc_jobs.specs.declared.table.OpenJob.{OpenJob}
use Rattle.hc_jobs.proofs.Opening.{others-more, first-at, first-past, other-number, same-number}
use Rattle.hc_jobs.proofs.table.place_of.Goals as goal

pub loop-i-preserved : goal.loop-i-preserved
loop-i-preserved c = (
  omega (arith, c.loop-i-test.true),
  others-more c.args.number c.args.jobs.now c.loop-i.i c.index-jobs-i.result c.loop-i.invariant.1 c.loop-i-test.true c.index-jobs-i.is
      (other-number c.args.number c.index-jobs-i.result c.id.result (c.id.ensures ∙ ap (λ (x : OpenJob). x.job.id) (sym c.index-jobs-i.is)) c.if-id-number.true),
)

pub returns-else-id-number-clause-first : goal.returns-else-id-number-clause-first
returns-else-id-number-clause-first c =
    first-at c.args.number c.args.jobs.now c.loop-i.i c.index-jobs-i.result c.loop-i-test.true c.index-jobs-i.is
    (same-number c.args.number c.index-jobs-i.result c.id.result (c.id.ensures ∙ ap (λ (x : OpenJob). x.job.id) (sym c.index-jobs-i.is)) c.if-id-number.false)

pub returns-after-loop-i-clause-first : goal.returns-after-loop-i-clause-first
returns-after-loop-i-clause-first c = first-past c.args.number c.args.jobs.now c.loop-i.i c.loop-i-test.false
