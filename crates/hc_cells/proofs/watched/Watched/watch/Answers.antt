use Rattle.hc_cells.proofs.Marking.{marked-fewer, marked-on}
use Rattle.hc_cells.proofs.watched.Watched.watch.Goals as goal

pub loop-at-smaller : goal.loop-at-smaller
loop-at-smaller g c =
    marked-fewer c.args.h.now c.loop-at.h c.args.protos.now c.args.from c.args.self.now c.loop-at.self-inside.marks.items c.loop-at.at c.loop-at.invariant
    c.in-Some.here c.in-Some.is c.proto_of-at.new.h c.proto_of-at.result c.proto_of-at.ensures.same c.proto_of-at.ensures.loads c.proto_of-at.ensures.proto

pub loop-at-preserved : goal.loop-at-preserved
loop-at-preserved g c =
    marked-on c.args.h.now c.loop-at.h c.args.protos.now c.args.from c.args.self.now c.loop-at.self-inside.marks.items c.loop-at.at c.loop-at.invariant
    c.in-Some.here c.in-Some.is c.proto_of-at.new.h c.proto_of-at.result c.proto_of-at.ensures.same c.proto_of-at.ensures.loads c.proto_of-at.ensures.proto
    c.requires.room
