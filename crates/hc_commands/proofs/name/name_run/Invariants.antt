use Rattle.std.proofs.Common.{◌≡◌, ◌+◌, drop}
use Rattle.hc_commands.specs.Values.{name_run}
use Rattle.hc_commands.proofs.name.name_run.Given as goal

-- the bytes so far are of the run, which goes on in what is left
abbrev pub invariant-loop-i : goal.invariant-loop-i
invariant-loop-i l = l.i + name_run (drop l.i l.bytes) ≡ name_run l.bytes
