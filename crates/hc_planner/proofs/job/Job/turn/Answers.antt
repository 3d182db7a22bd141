use Rattle.std.proofs.Common.{sym, ap, ◌∙◌, refl, inr}
use Rattle.hc_planner.specs.Jobs.{JobState}
use Rattle.hc_planner.proofs.Owning.{asks-mega}
use Rattle.hc_planner.proofs.job.Job.turn.Goals as goal

pub returns-else-not-self-clause-turn : goal.returns-else-not-self-clause-turn
returns-else-not-self-clause-turn c =
    inr (record { done = asks-mega c.args.self.now (ap (λ (j : JobState). j.mega) (sym c.self.view_is) ∙ c.if-not-self.false); job = refl; reader = refl })
