use Rattle.std.proofs.Common.{ℕ, List, ap, ◌∙◌}
use Rattle.hc_planner.specs.Jobs.{JobState, maps_of}
use Rattle.hc_planner.specs.declared.seeker.Seeker.{Seeker}
use Rattle.hc_planner.proofs.Owning.{maps-new, own-new}
use Rattle.hc_planner.proofs.job.Job.new.Goals as goal

pub returns-clause-given : goal.returns-clause-given
returns-clause-given c =
    let given : List ℕ → JobState = λ ms. record { id = c.args.id; site = c.args.site; what = c.args.what; maps = ms; mega = c.args.mega; shape = c.args.shape; seekers = c.in_ok-seekers.seekers.items } in
    ap given (ap (λ (xs : List Seeker). maps_of xs) c.in_ok-seekers.ensures ∙ maps-new c.args.what c.args.shape.links c.args.maps.now)

pub returns-clause-own : goal.returns-clause-own
returns-clause-own c = own-new c.args.shape c.args.what c.args.maps.now c.args.mega c.in_ok-seekers.seekers.items c.in_ok-seekers.ensures
