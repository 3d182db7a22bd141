use Rattle.std.proofs.Common.{◌≡◌, None, Some, option_map, ap, subst, sym, ◌∙◌, arith}
use Rattle.hc_table.specs.World.{place_of}
use Rattle.hc_dict.specs.Dict.{before, seat_of, seated}
use Rattle.hc_dict.proofs.Names.{place_of-stands, place_of-seat, seat_of-within, few_names}
use Rattle.hc_dict.proofs.Dict.find.Goals as goal

pub returns-in_err-seat-clause-place : goal.returns-in_err-seat-clause-place
returns-in_err-seat-clause-place c =
    let seats = c.self.inside.seats in
    let none : None ≡ seat_of seats c.args.name = c.in_err-seat.ensures.value ∙ c.self.invariant.found c.args.name in
    subst (λ ps. c.from_residual.result ≡ place_of ps c.args.name) c.self.view_is
    (c.from_residual.ensures ∙ ap (option_map (before seats)) none ∙ sym (place_of-seat seats c.args.name))

pub before-requires : goal.before-requires
before-requires c =
    let within = seat_of-within c.self.inside.seats c.args.name c.in_ok-seat.field-0.now (sym (c.in_ok-seat.ensures.value ∙ c.self.invariant.found c.args.name)) in
    omega arith

pub returns-clause-place : goal.returns-clause-place
returns-clause-place c =
    let seats = c.self.inside.seats in
    let seat : Some c.in_ok-seat.field-0.now ≡ seat_of seats c.args.name = c.in_ok-seat.ensures.value ∙ c.self.invariant.found c.args.name in
    subst (λ ps. Some c.before-2.result ≡ place_of ps c.args.name) c.self.view_is
    (ap Some c.before-2.ensures ∙ ap (option_map (before seats)) seat ∙ sym (place_of-seat seats c.args.name))

pub returns-clause-within : goal.returns-clause-within
returns-clause-within c = (place_of-stands c.args.self.now c.args.name c.before-2.result (sym (returns-clause-place c))).1

pub returns-clause-named : goal.returns-clause-named
returns-clause-named c = (place_of-stands c.args.self.now c.args.name c.before-2.result (sym (returns-clause-place c))).0

pub overflow_cast-result : goal.overflow_cast-result
overflow_cast-result c =
    let seats = c.self.inside.seats in
    let seat : Some c.in_ok-seat.field-0.now ≡ seat_of seats c.args.name = c.in_ok-seat.ensures.value ∙ c.self.invariant.found c.args.name in
    let within = (place_of-stands (seated seats) c.args.name c.before-2.result (place_of-seat seats c.args.name ∙ sym (ap (option_map (before seats)) seat) ∙ ap Some (sym c.before-2.ensures))).1 in
    let few = few_names (seated seats) c.self.invariant.named in
    omega arith
