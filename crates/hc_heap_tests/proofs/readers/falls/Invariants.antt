use Rattle.std.proofs.Common.{◌≡◌}
use Rattle.hc_heap_tests.proofs.readers.falls.Given as goal

abbrev pub invariant-loop : goal.invariant-loop
invariant-loop l = l.reader.board ≡ l.initial.reader.board
