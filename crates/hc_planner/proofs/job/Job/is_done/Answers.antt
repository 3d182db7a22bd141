use Rattle.std.proofs.Common.{sym, ap, ◌∙◌}
use Rattle.hc_planner.specs.Jobs.{JobState}
use Rattle.hc_planner.proofs.Owning.{asks-mega}
use Rattle.hc_planner.proofs.job.Job.is_done.Goals as goal

pub returns-then-self : goal.returns-then-self
returns-then-self c = c.if-self.true ∙ sym (asks-mega c.args.self.now (ap (λ (j : JobState). j.mega) (sym c.self.view_is) ∙ c.if-self.true))
