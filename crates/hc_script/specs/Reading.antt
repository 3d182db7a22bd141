-- What a line means where it stands, and what a call of the reader takes.
use Rattle.std.specs.Prelude.{◌≡◌, ℕ, ◌+◌, ◌<◌, ◌≤◌, List, [], ◌∷◌, ◌++◌, length, Option, Some, None, Result, Ok, Err, true}
use Rattle.hc_lines.specs.Lines.{lines_of, ahead, IsUnbroken, TakesLines, IsShort}
use Rattle.hc_lines.specs.Outside.{IsAtEnd}
use Rattle.hc_commands.specs.Words.{is_skipped}
use Rattle.hc_script.specs.Line.{IsUnderstood, IsRefusedBehind}
use Rattle.hc_commands.specs.declared.command.Command.{Command}
use Rattle.hc_script.specs.declared.fault.ScriptFault.{ScriptFault}
use Rattle.hc_script.specs.declared.fault.ScriptFault.TheVariants.{Bad, Read, Memory}
use Rattle.hc_script.specs.declared.fault.What.{What}
use Rattle.hc_script.specs.declared.fault.What.TheVariants.{Form, Long, Size, Names, Unbuilt}
use Rattle.hc_lines.specs.declared.limits.TheConstants.{MAX_BYTES}

-- a place between two lines: the names so far, how many lines came before, and how many bytes they hold
pub record Position : Type 0 where
  pub names : List (List ℕ)
  pub lines : ℕ
  pub bytes : ℕ

-- the place before the first line
abbrev pub the_start : Position
the_start = record { names = []; lines = 0; bytes = 0 }

-- the place behind one more line
abbrev pub behind : Position → List ℕ → List (List ℕ) → Position
behind at line names = record { names = names; lines = at.lines + 1; bytes = at.bytes + length line }

-- the line ends within the bytes that a script may have
abbrev pub IsWithin : Position → List ℕ → Type 0
IsWithin at line = at.bytes + length line ≤ MAX_BYTES

-- the line asks for nothing
pub record IsPassed (at : Position) (line : List ℕ) (after : Position) : Type 0 where
  pub within : IsWithin at line
  pub short : IsShort line
  pub skipped : is_skipped line ≡ true
  pub goes_on : after ≡ behind at line at.names

-- the line asks for this command
pub record IsAsked (at : Position) (line : List ℕ) (command : Command) (after : Position) : Type 0 where
  pub within : IsWithin at line
  pub understood : IsUnderstood at.names line command after.names
  pub goes_on : after ≡ behind at line after.names

-- the line is refused: its end lies too far on; or it doesn't, and the line is refused behind the names so far
abbrev pub IsRefused : Position → List ℕ → What → Type 0
IsRefused at line Size = MAX_BYTES < at.bytes + length line
IsRefused at line Long = IsWithin at line × IsRefusedBehind at.names line Long
IsRefused at line Form = IsWithin at line × IsRefusedBehind at.names line Form
IsRefused at line Unbuilt = IsWithin at line × IsRefusedBehind at.names line Unbuilt
IsRefused at line Names = IsWithin at line × IsRefusedBehind at.names line Names

-- each of these lines asks for nothing
abbrev pub ArePassed : Position → List (List ℕ) → Position → Type 0
ArePassed at [] after = after ≡ at
ArePassed at (line ∷ lines) after = (next : Position) × IsPassed at line next × ArePassed next lines after

-- a call takes lines that ask for nothing, and one that asks for this command
pub record TakesCommand (at : Position) (before : Option (List ℕ)) (command : Command) (after : Position) (now : Option (List ℕ)) : Type 0 where
  pub passed : List (List ℕ)
  pub line : List ℕ
  pub there : Position
  pub are_passed : ArePassed at passed there
  pub asked : IsAsked there line command after
  pub taken : TakesLines before now (passed ++ line ∷ [])

-- a call takes lines that ask for nothing, and then there is no more
pub record TakesEnd (at : Position) (before : Option (List ℕ)) (after : Position) (now : Option (List ℕ)) : Type 0 where
  pub passed : List (List ℕ)
  pub are_passed : ArePassed at passed after
  pub taken : TakesLines before now passed
  pub ended : IsAtEnd now

-- a line of what was ahead that is refused, behind lines that ask for nothing
abbrev pub MeetsRefused : Position → Option (List ℕ) → List (List ℕ) → What → Type 0
MeetsRefused there None passed what = Unit {0}
MeetsRefused there (Some before) passed what =
    (line : List ℕ) × (rest : List (List ℕ)) × (lines_of before ≡ passed ++ line ∷ rest) × IsRefused there line what

-- a call meets lines that ask for nothing, and then the line of this number, which is refused
pub record TakesRefused (at : Position) (before : Option (List ℕ)) (number : ℕ) (what : What) : Type 0 where
  pub passed : List (List ℕ)
  pub there : Position
  pub are_passed : ArePassed at passed there
  pub number_is : number ≡ there.lines + 1
  pub refused : MeetsRefused there before passed what

-- a call takes lines that ask for nothing, and then a read fails. What was read behind these lines holds no newline,
-- and is lost
pub record TakesUntilFault (at : Position) (before : Option (List ℕ)) (after : Position) (now : Option (List ℕ)) : Type 0 where
  pub passed : List (List ℕ)
  pub are_passed : ArePassed at passed after
  pub lost : List ℕ
  pub unbroken : IsUnbroken lost
  pub taken : TakesLines before (ahead lost now) passed

-- what a call of the reader does: it takes lines up to a command, to the end, to a refused line, or to a read fault
abbrev pub Serves : Position → Option (List ℕ) → Result (Option Command) ScriptFault → Position → Option (List ℕ) → Type 0
Serves at before (Ok (Some command)) after now = TakesCommand at before command after now
Serves at before (Ok None) after now = TakesEnd at before after now
Serves at before (Err (Bad n what)) after now = TakesRefused at before n what
Serves at before (Err Read) after now = TakesUntilFault at before after now
Serves at before (Err Memory) after now = Unit {0}
