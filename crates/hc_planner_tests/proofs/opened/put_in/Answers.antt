use Rattle.hc_board.specs.Parts.{reads_of}
use Rattle.hc_planner_tests.proofs.opened.put_in.Goals as goal

pub start-requires-clause-own : goal.start-requires-clause-own
unfolding reads_of
start-requires-clause-own c = rw c.in_ok-reader.ensures.reader c.in_ok-job.ensures.own
