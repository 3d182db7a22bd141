-- One more name of the list is behind the text.
use Rattle.std.proofs.Common.{◌<◌, ◌++◌, ap, ◌∙◌, get_or, length, arith}
use Rattle.hc_report.specs.Text.{named}
use Rattle.hc_report.proofs.Fronts.{begins_more, begins_with_more}
use Rattle.hc_report.proofs.Spaced.{one_behind, spaced_first, spaced_next, two_behind}
use Rattle.hc_report.proofs.reply.list.push_names.Goals as goal
use Rattle.hc_report.proofs.reply.list.push_names.Goals.{then-i-gt0+in_ok-push_text, else-i-gt0}

pub loop-i-preserved : goal.loop-i-preserved
loop-i-preserved c =
    let there : c.loop-i.i < length c.args.list.now = omega (arith, c.len-i-end.ensures) in
    elim c.if-i-gt0.branch [
      | then-i-gt0+in_ok-push_text w ↦ (
        two_behind _ _ _ _ _ _ _ _ c.loop-i.invariant.0 (ap (λ o. o.items) w.out-is ∙ w.in_ok-push_text.ensures.ok) c.in_ok-push_nth.ensures.ok
            (spaced_next (named c.args.names.now) c.args.list.now c.loop-i.i 0 there w.if-i-gt0.true),
        begins_with_more _ _ _ _ (ap (λ o. o.items) w.out-is) c.push_nth.ensures.kept (begins_more _ _ _ w.push_text.ensures.kept c.loop-i.invariant.1),
      )
      | else-i-gt0 w ↦ (
        one_behind _ _ _ _ _ _ c.loop-i.invariant.0 (c.in_ok-push_nth.ensures.ok ∙ ap (λ o. o.items ++ named c.args.names.now (get_or c.args.list.now c.loop-i.i 0)) w.out-is)
            (spaced_first (named c.args.names.now) c.args.list.now c.loop-i.i 0 there (omega arith)),
        begins_with_more _ _ _ _ (ap (λ o. o.items) w.out-is) c.push_nth.ensures.kept c.loop-i.invariant.1,
      )
    ]
