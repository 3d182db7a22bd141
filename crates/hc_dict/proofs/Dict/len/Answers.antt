use Rattle.std.proofs.Common.{◌≤◌, length, subst, arith}
use Rattle.hc_dict.specs.Dict.{seated}
use Rattle.hc_dict.proofs.Names.{few_names}
use Rattle.hc_dict.proofs.Dict.len.Goals as goal

pub overflow_cast-result : goal.overflow_cast-result
overflow_cast-result c =
    let few = few_names (seated c.self.inside.seats) c.self.invariant.named in
    omega (arith, c.count.ensures)

pub returns-clause-within : goal.returns-clause-within
returns-clause-within c = subst (λ ps. length ps ≤ 1048576) c.self.view_is (few_names (seated c.self.inside.seats) c.self.invariant.named)
