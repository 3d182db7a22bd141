-- How far a replay has come.
use Rattle.std.specs.Prelude.{◌≡◌, ◌⊎◌, ℕ, List, Option}
use Rattle.hc_lines.specs.Lines.{TakesLines}
use Rattle.hc_lines.specs.Outside.{AppendsBytes}
use Rattle.hc_script.specs.Reading.{Position}
use Rattle.hc_commands.specs.declared.command.Command.{Command}
use Rattle.hc_script.specs.declared.fault.ScriptFault.{ScriptFault}
use Rattle.hc_script.specs.declared.fault.ScriptFault.TheVariants.{Bad, Read, Memory}
use Rattle.hc_script.specs.declared.fault.Status.{Status}
use Rattle.hc_script.specs.declared.fault.Status.TheVariants.{BadScript, ReadFault, Memory as OutOfMemory}
use Rattle.hc_session.specs.Fault.{refusal_line, read_line}
use Rattle.hc_session.specs.Output.{Place, Answers}
use Rattle.hc_session.specs.Plain.{Answer}
use Rattle.hc_session.specs.Replay.{EndsWith}

-- lines were taken from the front of what was ahead and answered, and their text was written
pub record Progress {S : Type 0} (does : S → Command → Answer → S → Type 0) (start : Place S) (before taken : Option (List ℕ)) (at : Position) (state : S) (ahead now : Option (List ℕ)) : Type 0 where
  pub lines : List (List ℕ)
  pub text : List ℕ
  pub begun : ℕ
  pub took : TakesLines before ahead lines
  pub answers : Answers does start lines text (record { at = at; begun = begun; state = state })
  pub written : AppendsBytes taken text now

-- the line of a fault was written, or a proper front of it; want of memory writes none
abbrev pub EndsByFault : Option (List ℕ) → ScriptFault → Status → Option (List ℕ) → Type 0
EndsByFault taken (Bad n what) end now =
    EndsWith taken (refusal_line n what) (BadScript n what) end now ⊎ ((end ≡ OutOfMemory) × (now ≡ taken))
EndsByFault taken Read end now = EndsWith taken read_line ReadFault end now
EndsByFault taken Memory end now = (end ≡ OutOfMemory) × (now ≡ taken)
