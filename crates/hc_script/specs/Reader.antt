-- What contracts see of a reader.
use Rattle.std.specs.Prelude.{ℕ, List, [], Option, Some, None, Result, Ok, Err}
use Rattle.hc_script.specs.Reading.{Position, the_start}
use Rattle.hc_commands.specs.declared.command.Command.{Command}
use Rattle.hc_script.specs.declared.fault.ScriptFault.{ScriptFault}
use Rattle.hc_script.specs.declared.reader.Phase.{Phase}
use Rattle.hc_script.specs.declared.reader.Phase.TheVariants.{Going, Ended, Failed}

-- the place that it has come to, the bytes that it has read past it, and whether it goes on
pub record Reader : Type 0 where
  pub at : Position
  pub pending : List ℕ
  pub phase : Phase

abbrev pub the_new_reader : Reader
the_new_reader = record { at = the_start; pending = []; phase = Going }

-- the end and a fault are kept
abbrev pub phase_after : Result (Option Command) ScriptFault → Phase
phase_after (Ok (Some command)) = Going
phase_after (Ok None) = Ended
phase_after (Err fault) = Failed fault
