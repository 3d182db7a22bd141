use Rattle.std.proofs.Common.{◌≡◌, ◌≤◌, ◌++◌, List, ℕ, length}
use Rattle.hc_lines.specs.Outside.{AppendsBytes}
use Rattle.hc_session.proofs.write.write_piece.Given as goal

-- a front of the piece was taken, and the rest stands behind it
abbrev pub invariant-writes : goal.invariant-writes
invariant-writes g l =
    let taken = g.K.Sink.taken in
    record {
      front : (front : List ℕ) × (l.piece ≡ front ++ l.rest) × AppendsBytes (taken l.initial.sink) front (taken l.sink);
      grows : g.K.Sink.faults l.initial.sink ≤ g.K.Sink.faults l.sink;
    }

abbrev pub decreases-writes : goal.decreases-writes
decreases-writes g l = length l.rest
