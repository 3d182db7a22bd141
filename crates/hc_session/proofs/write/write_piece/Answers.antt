use Rattle.std.proofs.Common.{arith}
use Rattle.hc_session.proofs.Pieces.{front_on, stops_short}
use Rattle.hc_session.proofs.write.write_piece.Goals as goal

pub writes-preserved : goal.writes-preserved
writes-preserved g c = record {
  front = front_on c.args.piece.now c.writes.invariant.front.0 c.writes.rest.now c.in-Ok.n _ _ _ c.in-Ok.ensures.count c.writes.invariant.front.1 c.writes.invariant.front.2 c.in-Ok.ensures.appended;
  grows = omega (arith, c.writes.invariant.grows, c.in-Ok.ensures.grows);
}

pub returns-in-Err-clause-err : goal.returns-in-Err-clause-err
returns-in-Err-clause-err g c =
    stops_short c.args.piece.now c.writes.invariant.front.0 c.writes.rest.now _ _ _ c.writes.invariant.front.1 c.writes.invariant.front.2 c.in-Err.ensures.err c.writes-test.ensures
