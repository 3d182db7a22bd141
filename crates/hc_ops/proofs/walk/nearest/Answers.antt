use Rattle.std.proofs.Common.{◌≡◌, ℕ, Option, length, sym, ap, subst, ◌∙◌}
use Rattle.hc_table.specs.Changes.{Nothing, IsThere}
use Rattle.hc_table.specs.World.{World, IsWorld, object}
use Rattle.hc_ops.specs.Nearest.{nearest, nearest_among}
use Rattle.hc_ops.proofs.Walks.{walk-present, walk-absent, walk-there, walk-fewer}
use Rattle.hc_ops.proofs.walk.nearest.Goals as goal

pub returns-in-Some-own_property-clause-nearest : goal.returns-in-Some-own_property-clause-nearest
returns-in-Some-own_property-clause-nearest g c =
    let w = g.T.Tables.world c.args.t.now in
    let i = c.loop-at.invariant in
    walk-present w c.loop-at.at c.in-Some.holder c.in-Some.is i.there c.args.name (nearest w c.args.o c.args.name) i.rest
    (g.T.Tables.world c.loop-at.t) i.same c.in-Some-own_property.own c.in-Some-own_property.ensures.found

pub loop-at-smaller : goal.loop-at-smaller
loop-at-smaller g c =
    let w = g.T.Tables.world c.args.t.now in
    let i = c.loop-at.invariant in
    let same : g.T.Tables.world c.own_property.new.t ≡ w = c.in_default-own_property.ensures.same ∙ i.same in
    let sound : IsWorld w = subst IsWorld same c.proto-at.ensures.sound in
    let next = c.proto-at.ensures.proto ∙ ap (λ (v : World). (object v c.in-Some.holder).proto) same in
    walk-fewer w c.loop-at.at c.in-Some.holder c.in-Some.is i.there sound
    (g.T.Tables.world c.proto-at.new.self) (g.T.Tables.world c.loop-at.t) (c.proto-at.ensures.same ∙ same) i.same c.proto-at.result next

pub loop-at-preserved : goal.loop-at-preserved
loop-at-preserved g c =
    let w = g.T.Tables.world c.args.t.now in
    let i = c.loop-at.invariant in
    let same : g.T.Tables.world c.own_property.new.t ≡ w = c.in_default-own_property.ensures.same ∙ i.same in
    let sound : IsWorld w = subst IsWorld same c.proto-at.ensures.sound in
    let next = c.proto-at.ensures.proto ∙ ap (λ (v : World). (object v c.in-Some.holder).proto) same in
    let still = g.met.T.Tables.nothing_before c.args.t.now c.loop-at.t c.own_property.new.t Nothing i.still c.in_default-own_property.ensures.still in
    let absent = walk-absent w c.loop-at.at c.in-Some.holder c.in-Some.is i.there sound c.args.name (nearest w c.args.o c.args.name) i.rest
    (g.T.Tables.world c.loop-at.t) i.same c.in_default-own_property.ensures.found in
    record {
      same = c.proto-at.ensures.same ∙ same;
      same_limit = c.proto-at.ensures.same_limit ∙ c.in_default-own_property.ensures.same_limit ∙ i.same_limit;
      still = g.met.T.Tables.nothing_before c.args.t.now c.own_property.new.t c.proto-at.new.self Nothing still c.proto-at.ensures.still;
      there = subst (IsThere w) (sym next) (walk-there w c.loop-at.at c.in-Some.holder c.in-Some.is i.there sound);
      rest = ap (λ (p : Option ℕ). nearest_among (length w) w p c.args.name) next ∙ absent;
    }
