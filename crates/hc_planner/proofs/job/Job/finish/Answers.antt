use Rattle.std.proofs.Common.{◌≡◌, refl, subst}
use Rattle.hc_board.specs.States.{reads_made}
use Rattle.hc_planner.specs.Jobs.{JobState, HasOutcome, maps_of}
use Rattle.hc_planner.proofs.Owning.{own-told}
use Rattle.hc_planner.proofs.job.Job.finish.Goals as goal

pub returns-clause-told : goal.returns-clause-told
returns-clause-told c =
    let outcome = c.outcome_of-outcome.result in
    own-told c.args.self (reads_made c.args.reader) outcome
    (subst (λ (j : JobState). HasOutcome j.site j.what j.mega j.seekers outcome) c.self.view_is c.outcome_of-outcome.ensures.told)
    (subst (λ (j : JobState). j.maps ≡ maps_of j.seekers) c.self.view_is refl)
    c.requires.done c.requires.own
