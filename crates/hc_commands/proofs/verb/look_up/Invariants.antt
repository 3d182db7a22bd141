use Rattle.std.proofs.Common.{◌≡◌, length, map}
use Rattle.hc_commands.specs.VerbTable.{look_up}
use Rattle.hc_commands.proofs.verb.look_up.Given as goal

-- what is left of the table has the same first entry with this word
abbrev pub invariant-loop-table : goal.invariant-loop-table
invariant-loop-table l = look_up (map (λ entry. (entry.0.now, entry.1)) l.table) l.word ≡ look_up (map (λ entry. (entry.0.now, entry.1)) l.initial.table) l.word

abbrev pub decreases-loop-table : goal.decreases-loop-table
decreases-loop-table l = length l.table
