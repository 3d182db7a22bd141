-- The word of one more skip is behind the text.
use Rattle.std.proofs.Common.{◌<◌, ◌++◌, ap, ◌∙◌, get_or, length, arith}
use Rattle.hc_plan.specs.declared.skip.Skip.TheVariants.{Dead}
use Rattle.hc_report.specs.Lines.{skip_text}
use Rattle.hc_report.proofs.Fronts.{begins_more, begins_with_more}
use Rattle.hc_report.proofs.Spaced.{one_behind, spaced_first, spaced_next, two_behind}
use Rattle.hc_report.proofs.line.push_skips.Goals as goal
use Rattle.hc_report.proofs.line.push_skips.Goals.{then-i-gt0+in_ok-push_text, else-i-gt0}

pub loop-i-preserved : goal.loop-i-preserved
loop-i-preserved c =
    let there : c.loop-i.i < length c.args.skips.now = omega (arith, c.len-i-end.ensures) in
    elim c.if-i-gt0.branch [
      | then-i-gt0+in_ok-push_text w ↦ (
        two_behind _ _ _ _ _ _ _ _ c.loop-i.invariant.0 (ap (λ o. o.items) w.out-is ∙ w.in_ok-push_text.ensures.ok) c.in_ok-push_nth_skip.ensures.ok
            (spaced_next skip_text c.args.skips.now c.loop-i.i (Dead 0) there w.if-i-gt0.true),
        begins_with_more _ _ _ _ (ap (λ o. o.items) w.out-is) c.push_nth_skip.ensures.kept (begins_more _ _ _ w.push_text.ensures.kept c.loop-i.invariant.1),
      )
      | else-i-gt0 w ↦ (
        one_behind _ _ _ _ _ _ c.loop-i.invariant.0 (c.in_ok-push_nth_skip.ensures.ok ∙ ap (λ o. o.items ++ skip_text (get_or c.args.skips.now c.loop-i.i (Dead 0))) w.out-is)
            (spaced_first skip_text c.args.skips.now c.loop-i.i (Dead 0) there (omega arith)),
        begins_with_more _ _ _ _ (ap (λ o. o.items) w.out-is) c.push_nth_skip.ensures.kept c.loop-i.invariant.1,
      )
    ]
