use Rattle.std.proofs.Common.{◌≡◌, ◌+◌, ◌≤◌, List, [], length, vec_len, vec_capacity}
use Rattle.hc_plan.specs.declared.case.Case.{Case}
use Rattle.hc_plan.specs.declared.skip.Skip.{Skip}
use Rattle.hc_question.specs.Ask.{tell}
use Rattle.hc_planner.specs.Machine.{asks_of}
use Rattle.hc_planner.proofs.finished.answers.Given as goal

abbrev pub invariant-loop-seekers : goal.invariant-loop-seekers
invariant-loop-seekers l =
    ((told : List Case) (passed : List Skip) → asks_of l.fn.seekers.items [] [] ≡ tell told passed → asks_of l.seekers.items l.cases.items l.skips ≡ tell told passed)
    × (vec_len l.cases + vec_len l.seekers ≤ 4)
    × (length l.skips + vec_len l.seekers ≤ 4)
    × (4 ≤ vec_capacity l.cases)

abbrev pub decreases-loop-seekers : goal.decreases-loop-seekers
decreases-loop-seekers l = vec_len l.seekers
