use Rattle.std.proofs.Common.{◌≡◌, ◌++◌, drop}
use Rattle.hc_session.specs.Logging.{log_text}
use Rattle.hc_session.proofs.render.render_lines.Given as goal

-- the lines so far are behind the text, and the others are left
abbrev pub invariant-loop-i : goal.invariant-loop-i
invariant-loop-i l = record {
  rest : l.out.items ++ log_text (drop l.i l.log.lines) ≡ l.initial.out.items ++ log_text (drop l.from l.log.lines);
}
