use Rattle.std.proofs.Common.{◌≡◌, ◌+◌, ◌++◌, vec_len, vec_capacity, take}
use Rattle.hc_plan.specs.Deps.{stables}
use Rattle.hc_plan.proofs.deps.push_stables.Given as goal

abbrev pub invariant-loop-hop : goal.invariant-loop-hop
invariant-loop-hop l =
    (l.deps.items ≡ l.fn.deps.items ++ stables (take l.hop-index l.chain))
    × (vec_len l.deps ≡ vec_len l.fn.deps + l.hop-index)
    × (vec_capacity l.deps ≡ vec_capacity l.fn.deps)
