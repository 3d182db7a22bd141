-- What a reader does with one line.
use Rattle.std.specs.Prelude.{◌≡◌, ℕ, ◌+◌, ◌<◌, List, [], ◌∷◌, length, Option, Result, Ok, Err}
use Rattle.hc_value.specs.declared.memory.Memory.{Memory as OutOfMemory}
use Rattle.hc_lines.specs.Lines.{TakesLines}
use Rattle.hc_lines.specs.Outside.{IsAtEnd}
use Rattle.hc_lines.specs.Fetch.{LosesPart}
use Rattle.hc_script.specs.Reading.{Position, IsPassed, IsAsked, IsRefused, MeetsRefused}
use Rattle.hc_script.specs.declared.line.Meaning.{Meaning}
use Rattle.hc_script.specs.declared.line.Meaning.TheVariants.{Nothing, Asked as AskedFor, Refused}
use Rattle.hc_script.specs.declared.reader.Turn.{Turn}
use Rattle.hc_script.specs.declared.reader.Turn.TheVariants.{End, Passed, Asked}
use Rattle.hc_script.specs.declared.fault.ScriptFault.{ScriptFault}
use Rattle.hc_script.specs.declared.fault.ScriptFault.TheVariants.{Bad, Read, Memory}

-- there is no line, or one is taken that isn't empty
abbrev pub TakesTurn : Position → Option (List ℕ) → Turn → Position → Option (List ℕ) → Type 0
TakesTurn at before End after now = (after ≡ at) × (now ≡ before) × IsAtEnd now
TakesTurn at before Passed after now =
    (line : List ℕ) × (0 < length line) × IsPassed at line after × TakesLines before now (line ∷ [])
TakesTurn at before (Asked command) after now =
    (line : List ℕ) × (0 < length line) × IsAsked at line command after × TakesLines before now (line ∷ [])

-- the line is refused, or isn't there
abbrev pub FailsTurn : Position → Option (List ℕ) → ScriptFault → Position → Option (List ℕ) → Type 0
FailsTurn at before (Bad n what) after now = (n ≡ at.lines + 1) × MeetsRefused at before [] what
FailsTurn at before Read after now = (after ≡ at) × LosesPart before now
FailsTurn at before Memory after now = Unit {0}

-- a line that was there is refused, or memory runs out
abbrev pub IsLineFault : Position → List ℕ → ScriptFault → Type 0
IsLineFault at line (Bad n what) = (n ≡ at.lines + 1) × IsRefused at line what
IsLineFault at line Read = ⊥
IsLineFault at line Memory = Unit {0}

-- what the line of this number is to the reader, by its meaning
abbrev pub turn_for : Result Meaning OutOfMemory → ℕ → Result Turn ScriptFault
turn_for (Ok Nothing) number = Ok Passed
turn_for (Ok (AskedFor command)) number = Ok (Asked command)
turn_for (Ok (Refused what)) number = Err (Bad number what)
turn_for (Err out) number = Err Memory
