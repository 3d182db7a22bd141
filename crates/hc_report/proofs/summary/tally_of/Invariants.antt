use Rattle.std.proofs.Common.{◌≡◌, take}
use Rattle.hc_report.specs.Summary.{tally_of}
use Rattle.hc_report.proofs.summary.tally_of.Given as goal

abbrev pub invariant-loop-i : goal.invariant-loop-i
invariant-loop-i l = l.tally ≡ tally_of (take l.i l.log.lines)
