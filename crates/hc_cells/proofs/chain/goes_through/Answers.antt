use Rattle.std.proofs.Common.{◌≡◌, false, eqb, arith}
use Rattle.std.proofs.lemmas.Bool.Decides.{nat_tests}
use Rattle.hc_cells.proofs.Walks.{walk-fewer, walk-on}
use Rattle.hc_cells.proofs.chain.goes_through.Goals as goal

pub loop-at-smaller : goal.loop-at-smaller
loop-at-smaller g c =
    walk-fewer c.args.h.now c.loop-at.h c.args.protos.now c.args.from c.args.object c.loop-at.at c.loop-at.invariant c.in-Some.here c.in-Some.is
    c.proto_of-at.new.h c.proto_of-at.result c.proto_of-at.ensures.same c.proto_of-at.ensures.loads c.proto_of-at.ensures.proto

pub loop-at-preserved : goal.loop-at-preserved
loop-at-preserved g c =
    let other : eqb c.in-Some.here c.args.object ≡ false = grind (arith, nat_tests, c.if-here-object.false) in
    walk-on c.args.h.now c.loop-at.h c.args.protos.now c.args.from c.args.object c.loop-at.at c.loop-at.invariant c.in-Some.here c.in-Some.is
    c.proto_of-at.new.h c.proto_of-at.result c.proto_of-at.ensures.same c.proto_of-at.ensures.loads c.proto_of-at.ensures.proto other
