use Rattle.std.proofs.Common.{◌≡◌}
use Rattle.hc_heap_tests.proofs.readers.store_upwards.Given as goal

abbrev pub invariant-loop-word : goal.invariant-loop-word
invariant-loop-word l = (l.writer.board ≡ l.initial.writer.board) × (l.writer.met ≡ l.initial.writer.met)
