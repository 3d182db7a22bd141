use Rattle.std.proofs.Common.{◌≡◌, ◌+◌, ◌-◌, ◌<◌, ◌≤◌, vec_len}
use Rattle.hc_lines.specs.Lines.{ahead}
use Rattle.hc_lines.specs.declared.limits.TheConstants.{MAX_BYTES, MAX_LINE, PIECE}
use Rattle.hc_lines.proofs.Skipping.{HasSkipped}
use Rattle.hc_lines.proofs.fetch.skip_line.Given as goal

-- what was read so far belongs to the line, which is too long, and lies within the bytes of a script
abbrev pub invariant-reads : goal.invariant-reads
invariant-reads g l = record {
  skipped : HasSkipped (ahead l.fn.buffer (g.S.Source.left l.fn.source)) (g.S.Source.left l.source) l.passed;
  long : MAX_LINE < l.passed;
  within : l.used + l.passed ≤ MAX_BYTES;
  piece : vec_len l.piece ≡ PIECE;
  grows : g.S.Source.faults l.fn.source ≤ g.S.Source.faults l.source;
}

-- each read that isn't at the end passes over some of the bytes of a script
abbrev pub decreases-reads : goal.decreases-reads
decreases-reads g l = MAX_BYTES - (l.used + l.passed)
