use Rattle.std.proofs.Common.{◌≡◌, ◌++◌, map, take}
use Rattle.hc_report.specs.Front.{BeginsWith}
use Rattle.hc_report.specs.Lines.{skip_text}
use Rattle.hc_report.specs.Text.{spaced}
use Rattle.hc_report.proofs.line.push_skips.Given as goal

abbrev pub invariant-loop-i : goal.invariant-loop-i
invariant-loop-i l =
    (l.out.items ≡ l.initial.out.items ++ spaced (map skip_text (take l.i l.skips)))
    × BeginsWith l.out.items l.initial.out.items
