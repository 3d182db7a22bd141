use Rattle.hc_board.specs.Parts.{reads_of}
use Rattle.hc_planner_tests.proofs.jobs.found.Goals as goal

pub loop-job-init : goal.loop-job-init
unfolding reads_of
loop-job-init c = rw c.in_ok-reader.ensures.reader c.in_ok-job.ensures.own
