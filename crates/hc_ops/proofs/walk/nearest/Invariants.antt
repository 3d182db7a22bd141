use Rattle.std.proofs.Common.{◌≡◌, length}
use Rattle.hc_table.specs.Changes.{Nothing, IsThere}
use Rattle.hc_ops.specs.Nearest.{nearest, nearest_among}
use Rattle.hc_ops.proofs.Walks.{passed}
use Rattle.hc_ops.proofs.walk.nearest.Given as goal

-- the chain from here has what the whole chain has
abbrev pub invariant-loop-at : goal.invariant-loop-at
invariant-loop-at g l = record {
  same : g.T.Tables.world l.t ≡ g.T.Tables.world l.fn.t;
  same_limit : g.T.Tables.limit l.t ≡ g.T.Tables.limit l.fn.t;
  still : g.T.Tables.came l.fn.t Nothing l.t;
  there : IsThere (g.T.Tables.world l.fn.t) l.at;
  rest : nearest_among (length (g.T.Tables.world l.fn.t)) (g.T.Tables.world l.fn.t) l.at l.fn.name ≡ nearest (g.T.Tables.world l.fn.t) l.fn.o l.fn.name;
}

abbrev pub decreases-loop-at : goal.decreases-loop-at
decreases-loop-at g l = passed (length (g.T.Tables.world l.t)) (g.T.Tables.world l.t) l.at
