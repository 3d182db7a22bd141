use Rattle.std.proofs.Common.{IsSome, sym, subst}
use Rattle.hc_dict.specs.Dict.{prop_seated}
use Rattle.hc_dict.proofs.Row.{there, counted-set}
use Rattle.hc_dict.proofs.seats.Seats.set.Goals as goal

pub invariant_of-self : goal.invariant_of-self
invariant_of-self c =
    let stands = there c.self.inside.row.items c.args.seat (subst (λ v. IsSome (prop_seated v c.args.seat)) (sym c.self.view_is) c.requires) in
    counted-set c.self.inside.row.items c.self.inside.counts.items c.self.inside.gaps c.args.seat stands.0 c.args.p stands.1 c.self.invariant
