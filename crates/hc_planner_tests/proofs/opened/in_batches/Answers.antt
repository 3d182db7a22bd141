use Rattle.hc_board.specs.Parts.{reads_of}
use Rattle.hc_planner_tests.proofs.opened.in_batches.Goals as goal

pub make_reads-requires : goal.make_reads-requires
unfolding reads_of
make_reads-requires c = record { own = rw c.in_ok-reader.ensures.reader c.in_ok-job.ensures.own }
