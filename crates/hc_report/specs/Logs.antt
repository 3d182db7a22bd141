-- What contracts see of a log.
use Rattle.std.specs.Prelude.{ℕ, List}
use Rattle.hc_report.specs.declared.line.Line.{Line}

-- the lines, each with how many writes there were when it was put, and for how many more there is room
pub record Logged : Type 0 where
  pub lines : List (ℕ × Line)
  pub room : ℕ
