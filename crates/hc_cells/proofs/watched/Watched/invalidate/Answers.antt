use Rattle.std.proofs.Common.{Bool, List, sym, subst}
use Rattle.hc_heap.specs.Frames.{adds-none}
use Rattle.hc_cells.specs.Watched.{AreWatchedBut}
use Rattle.hc_cells.proofs.Marking.{marks-taken}
use Rattle.hc_cells.proofs.watched.Watched.invalidate.Goals as goal

pub returns-then-not-index-clause-writes : goal.returns-then-not-index-clause-writes
returns-then-not-index-clause-writes g c = adds-none c.args.h.now.view.trail

pub returns-clause-watched : goal.returns-clause-watched
returns-clause-watched g c =
    let t = c.args.h.now.view.trail in
    let ps = c.args.protos.now in
    let watched : AreWatchedBut c.args.object t ps c.self.inside.marks.items = subst (λ (marks : List Bool). AreWatchedBut c.args.object t ps marks) (sym c.self.view_is) c.requires.watched in
    marks-taken t ps c.args.object c.invalidate.new.h.view.trail c.self.inside.marks.items c.invalidate.ensures.writes c.invalidate.ensures.after watched
