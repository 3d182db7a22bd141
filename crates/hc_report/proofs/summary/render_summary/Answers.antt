-- The counts that were written are those of the log.
use Rattle.std.proofs.Common.{◌≡◌, ◌++◌, subst}
use Rattle.std.specs.Prelude.{OnOk}
use Rattle.hc_report.specs.declared.summary.Tally.{Tally}
use Rattle.hc_report.specs.Summary.{summary_lines}
use Rattle.hc_report.proofs.summary.render_summary.Goals as goal

pub returns-else-is_err-clause-ok : goal.returns-else-is_err-clause-ok
returns-else-is_err-clause-ok c =
    subst (λ (tally : Tally). OnOk c.push_summary-pushed.result (c.push_summary-pushed.new.out.items ≡ c.args.out.now.items ++ summary_lines c.args.commands c.args.trues tally))
    c.tally_of.ensures c.push_summary-pushed.ensures.ok
