use Rattle.std.proofs.Common.{◌≡◌, ◌<◌, Some, length, slice_get, sym, subst, ◌∙◌}
use Rattle.hc_table.specs.World.{World, props_at}
use Rattle.hc_ops.proofs.Places.{IsPlace-from_place_of, found_in-absent}
use Rattle.hc_ops.proofs.walk.own_property.Goals as goal

pub returns-in_err-place-clause-found : goal.returns-in_err-place-clause-found
returns-in_err-place-clause-found g c =
    c.from_residual.ensures ∙ sym (found_in-absent c.args.name (props_at (g.T.Tables.world c.args.t.now) c.args.o) (sym c.in_err-place.ensures.place))

pub prop_at-property-requires-clause-place : goal.prop_at-property-requires-clause-place
prop_at-property-requires-clause-place g c =
    let w = g.T.Tables.world c.args.t.now in
    let place = IsPlace-from_place_of c.args.name (props_at w c.args.o) c.in_ok-place.place (sym c.in_ok-place.ensures.place) in
    subst (λ (v : World). c.in_ok-place.place < length (props_at v c.args.o)) (sym c.in_ok-place.ensures.same) place.within

pub returns-clause-found : goal.returns-clause-found
returns-clause-found g c =
    let w = g.T.Tables.world c.args.t.now in
    let p = c.prop_at-property.result in
    let at = subst (λ (v : World). slice_get (props_at v c.args.o) c.in_ok-place.place ≡ Some p) c.in_ok-place.ensures.same c.prop_at-property.ensures.prop in
    sym ((IsPlace-from_place_of c.args.name (props_at w c.args.o) c.in_ok-place.place (sym c.in_ok-place.ensures.place)).found p at)
