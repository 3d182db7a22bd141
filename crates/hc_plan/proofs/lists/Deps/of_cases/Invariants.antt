use Rattle.std.proofs.Common.{◌≡◌, ◌≤◌, ◌*◌, vec_len, vec_capacity, take}
use Rattle.hc_plan.specs.Deps.{deps_of}
use Rattle.hc_plan.proofs.lists.Deps.of_cases.Given as goal

abbrev pub invariant-loop-case : goal.invariant-loop-case
invariant-loop-case l =
    (l.deps.items ≡ deps_of (take l.case-index l.case-items))
    × (vec_len l.deps ≤ l.case-index * 20)
    × (vec_capacity l.deps ≡ vec_capacity l.fn.room)
