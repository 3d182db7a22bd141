use Rattle.std.proofs.Common.{◌≡◌, length}
use Rattle.hc_table.specs.Changes.{Nothing, IsThere, reaches, reaches_among}
use Rattle.hc_ops.proofs.Walks.{passed}
use Rattle.hc_ops.proofs.walk.comes_to.Given as goal

-- the chain from here comes where the whole chain comes
abbrev pub invariant-loop-at : goal.invariant-loop-at
invariant-loop-at g l = record {
  same : g.T.Tables.world l.t ≡ g.T.Tables.world l.fn.t;
  same_limit : g.T.Tables.limit l.t ≡ g.T.Tables.limit l.fn.t;
  still : g.T.Tables.came l.fn.t Nothing l.t;
  there : IsThere (g.T.Tables.world l.fn.t) l.at;
  rest : reaches_among (length (g.T.Tables.world l.fn.t)) (g.T.Tables.world l.fn.t) l.at l.fn.o ≡ reaches (g.T.Tables.world l.fn.t) l.fn.proto l.fn.o;
}

abbrev pub decreases-loop-at : goal.decreases-loop-at
decreases-loop-at g l = passed (length (g.T.Tables.world l.t)) (g.T.Tables.world l.t) l.at
