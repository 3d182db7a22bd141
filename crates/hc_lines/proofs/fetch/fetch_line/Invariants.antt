use Rattle.std.proofs.Common.{◌≡◌, ◌+◌, ◌-◌, ◌≤◌, length, vec_len}
use Rattle.hc_lines.specs.Lines.{ahead}
use Rattle.hc_lines.specs.declared.limits.TheConstants.{MAX_BYTES, MAX_LINE, PIECE}
use Rattle.hc_lines.proofs.fetch.fetch_line.Given as goal

-- nothing was lost so far
abbrev pub invariant-reads : goal.invariant-reads
invariant-reads g l = record {
  same : ahead l.buffer (g.S.Source.left l.source) ≡ ahead l.fn.buffer (g.S.Source.left l.fn.source);
  piece : vec_len l.piece ≡ PIECE;
  held : length l.buffer ≤ MAX_LINE + PIECE;
  grows : g.S.Source.faults l.fn.source ≤ g.S.Source.faults l.source;
}

-- each read that isn't at the end makes the buffer longer
abbrev pub decreases-reads : goal.decreases-reads
decreases-reads g l = (MAX_BYTES + 1) - (l.used + length l.buffer)
