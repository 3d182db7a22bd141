use Rattle.std.proofs.Common.{◌≡◌}
use Rattle.hc_layout.specs.Shape.{words_of}
use Rattle.hc_deps_tests.specs.declared.board.TheConstants.{SHAPE}
use Rattle.hc_deps_tests.proofs.board.written.Given as goal

abbrev pub invariant-loop-k : goal.invariant-loop-k
invariant-loop-k l = l.writer.board.words ≡ words_of SHAPE
