use Rattle.std.proofs.Common.{◌≡◌, ◌≤◌, length, map, take, vec_len, vec_capacity}
use Rattle.hc_planner.specs.Jobs.{new_seeker}
use Rattle.hc_planner.proofs.job.seekers_of.Given as goal

abbrev pub invariant-loop-number : goal.invariant-loop-number
invariant-loop-number l =
    (l.seekers.items ≡ map (new_seeker l.what l.most) (take l.number-index l.maps))
    × (vec_len l.seekers ≡ l.number-index)
    × (length l.maps ≤ vec_capacity l.seekers)
