use Rattle.std.proofs.Common.{◌≡◌, Some, slice_get, subst}
use Rattle.hc_dict.specs.Dict.{seated}
use Rattle.hc_dict.proofs.Names.{number_at}
use Rattle.hc_dict.proofs.Row.{seated-at}
use Rattle.hc_dict.proofs.Dict.prop.Goals as goal

pub returns-clause-prop : goal.returns-clause-prop
returns-clause-prop c =
    let seats = c.self.inside.seats in
    let stands = seated-at seats c.find-seat.result.0 c.find-seat.result.1 c.find-seat.ensures.prop in
    subst (λ ps. slice_get ps c.args.i ≡ Some c.find-seat.result.1) c.self.view_is
    (subst (λ n. slice_get (seated seats) n ≡ Some c.find-seat.result.1) c.find-seat.ensures.place stands)

pub returns-clause-number : goal.returns-clause-number
returns-clause-number c =
    let seats = c.self.inside.seats in
    let stands = seated-at seats c.find-seat.result.0 c.find-seat.result.1 c.find-seat.ensures.prop in
    number_at (seated seats) _ c.find-seat.result.1 c.self.invariant.named.numbers stands
