use Rattle.std.proofs.Common.{◌≡◌}
use Rattle.hc_session_tests.proofs.beside.run_both.Given as goal

-- the limit of the plain tables stays
abbrev pub invariant-loop : goal.invariant-loop
invariant-loop g l = record {
  limit : l.plain.limit ≡ l.initial.plain.limit;
}
