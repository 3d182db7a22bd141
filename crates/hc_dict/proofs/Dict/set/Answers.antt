use Rattle.std.proofs.Common.{◌≡◌, Some, option_map, set, slice_get, subst, sym, ap, ◌∙◌}
use Rattle.std.proofs.lemmas.Option.{same_Some}
use Rattle.hc_value.specs.declared.prop.Prop.{Prop}
use Rattle.hc_table.specs.Changes.{name_at}
use Rattle.hc_dict.specs.Dict.{seated, AreFound}
use Rattle.hc_dict.proofs.Names.{found-set}
use Rattle.hc_dict.proofs.Row.{seated-at, seated-set}
use Rattle.hc_dict.proofs.Dict.set.Goals as goal

pub invariant_of-self : goal.invariant_of-self
invariant_of-self c =
    let seats = c.self.inside.seats in
    let old = c.find-seat.result.1 in
    let stands : slice_get (seated seats) c.args.i ≡ Some old =
    subst (λ n. slice_get (seated seats) n ≡ Some old) c.find-seat.ensures.place (seated-at seats c.find-seat.result.0 old c.find-seat.ensures.prop) in
    let named : name_at (seated seats) c.args.i ≡ Some c.args.p.name = subst (λ ps. name_at ps c.args.i ≡ Some c.args.p.name) (sym c.self.view_is) c.requires in
    let same : old.name ≡ c.args.p.name = same_Some old.name c.args.p.name (sym (ap (option_map (λ (x : Prop). x.name)) stands) ∙ named) in
    subst (λ row. AreFound row c.self.inside.names.entries) (sym c.set.ensures)
    (found-set seats c.find-seat.result.0 old c.args.p c.self.inside.names.entries c.self.invariant c.find-seat.ensures.prop same)

pub returns-clause-put : goal.returns-clause-put
returns-clause-put c =
    let seats = c.self.inside.seats in
    ap seated c.set.ensures
    ∙ seated-set seats c.find-seat.result.0 c.find-seat.result.1 c.args.p c.find-seat.ensures.prop
    ∙ ap (λ n. set (seated seats) n c.args.p) c.find-seat.ensures.place
    ∙ ap (λ ps. set ps c.args.i c.args.p) c.self.view_is

pub returns-clause-distinct : goal.returns-clause-distinct
returns-clause-distinct c = (invariant_of-self c).named.distinct
