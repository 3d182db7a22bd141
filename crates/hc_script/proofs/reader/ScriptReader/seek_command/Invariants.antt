use Rattle.std.proofs.Common.{◌≡◌, ◌-◌, ◌≤◌}
use Rattle.hc_lines.specs.Lines.{ahead}
use Rattle.hc_lines.specs.declared.limits.TheConstants.{MAX_BYTES}
use Rattle.hc_script.proofs.Passing.{HasPassed}
use Rattle.hc_script.proofs.reader.ScriptReader.seek_command.Given as goal

-- the lines so far ask for nothing
abbrev pub invariant-lines : goal.invariant-lines
invariant-lines g l = record {
  passed : HasPassed l.fn.self.at (ahead l.fn.self.pending (g.S.Source.left l.fn.source)) l.self.at (ahead l.self.pending (g.S.Source.left l.source));
  phase : l.self.phase ≡ l.fn.self.phase;
  grows : g.S.Source.faults l.fn.source ≤ g.S.Source.faults l.source;
}

-- each line that is passed over takes some of the bytes that a script may have
abbrev pub decreases-lines : goal.decreases-lines
decreases-lines g l = MAX_BYTES - l.self.at.bytes
