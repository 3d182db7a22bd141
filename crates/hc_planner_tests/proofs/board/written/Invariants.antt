use Rattle.std.proofs.Common.{◌≡◌}
use Rattle.hc_layout.specs.Shape.{words_of}
use Rattle.hc_planner_tests.specs.declared.board.TheConstants.{SHAPE}
use Rattle.hc_planner_tests.proofs.board.written.Given as goal

abbrev pub invariant-loop-k : goal.invariant-loop-k
invariant-loop-k l = l.writer.board.words ≡ words_of SHAPE

abbrev pub invariant-loop-object : goal.invariant-loop-object
invariant-loop-object l = l.writer.board.words ≡ words_of SHAPE
