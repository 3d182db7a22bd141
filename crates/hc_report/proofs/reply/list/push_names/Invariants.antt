use Rattle.std.proofs.Common.{◌≡◌, ◌++◌, map, take}
use Rattle.hc_report.specs.Front.{BeginsWith}
use Rattle.hc_report.specs.Text.{named, spaced}
use Rattle.hc_report.proofs.reply.list.push_names.Given as goal

abbrev pub invariant-loop-i : goal.invariant-loop-i
invariant-loop-i l =
    (l.out.items ≡ l.initial.out.items ++ spaced (map (named l.names) (take l.i l.list)))
    × BeginsWith l.out.items l.initial.out.items
