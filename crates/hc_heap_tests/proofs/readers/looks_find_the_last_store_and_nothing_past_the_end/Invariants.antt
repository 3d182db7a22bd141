use Rattle.std.proofs.Common.{◌≡◌}
use Rattle.hc_heap_tests.proofs.readers.looks_find_the_last_store_and_nothing_past_the_end.Given as goal

abbrev pub invariant-loop-index : goal.invariant-loop-index
invariant-loop-index g l = (l.writer.board.words ≡ 4) × (l.reader.board ≡ l.writer.board)
