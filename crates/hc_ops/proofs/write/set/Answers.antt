use Rattle.std.proofs.Common.{◌≡◌, None, sym, subst}
use Rattle.hc_table.specs.World.{World, props_at, place_of}
use Rattle.hc_ops.specs.Spots.{nearest_of}
use Rattle.hc_ops.proofs.Writes.{lacks-none, lacks-other}
use Rattle.hc_ops.proofs.write.set.Goals as goal

pub create-requires-clause-absent : goal.create-requires-clause-absent
create-requires-clause-absent g c =
    let w = g.T.Tables.world c.args.t.now in
    subst (λ (v : World). place_of (props_at v c.args.o) c.args.name ≡ None) (sym c.in_default.ensures.same)
    (lacks-none w c.args.o c.args.name c.requires.object (sym c.in_default.ensures.nearest))

pub set_datum-requires-clause-others : goal.set_datum-requires-clause-others
set_datum-requires-clause-others g c = λ other.
    let w = g.T.Tables.world c.args.t.now in
    subst (λ (v : World). place_of (props_at v c.args.o) c.args.name ≡ None) (sym c.in-Some.ensures.same)
    (lacks-other w c.args.o c.args.name c.requires.object (nearest_of c.in-Some.spot) (sym c.in-Some.ensures.nearest) other)
