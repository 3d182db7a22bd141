use Rattle.std.proofs.Common.{ap, ◌∙◌}
use Rattle.hc_planner.specs.declared.at.At.TheVariants.{Ended}
use Rattle.hc_planner.proofs.Asking.{goes-none, goes-by, ended-not}
use Rattle.hc_planner.proofs.finished.settle.Goals as goal

pub returns-in_default-clause-told : goal.returns-in_default-clause-told
returns-in_default-clause-told c = goes-none c.args.seeker c.args.cases.now.items c.args.cases.now.items c.args.skips.now c.args.skips.now (ended-not c.args.seeker.at c.in_default.not-Ended)

pub returns-in-Found-clause-told : goal.returns-in-Found-clause-told
returns-in-Found-clause-told c =
    rw c.push_reserved.ensures.items (goes-by c.args.seeker.search c.args.seeker.at _ c.args.cases.now.items c.args.skips.now (c.in-Ended.is ∙ ap Ended c.in-Found.is))

pub returns-in-Skipped-clause-told : goal.returns-in-Skipped-clause-told
returns-in-Skipped-clause-told c =
    rw c.push.ensures (goes-by c.args.seeker.search c.args.seeker.at _ c.args.cases.now.items c.args.skips.now (c.in-Ended.is ∙ ap Ended c.in-Skipped.is))
