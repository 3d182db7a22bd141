-- What a line means by itself.
use Rattle.std.specs.Prelude.{◌≡◌, ◌⊎◌, ℕ, ◌<◌, ◌≤◌, Bool, List, true, false, length}
use Rattle.std.specs.List.{list_all}
use Rattle.hc_names.specs.declared.TheConstants.{MAX_NAMES}
use Rattle.hc_lines.specs.Lines.{content, IsLong, IsShort}
use Rattle.hc_commands.specs.Words.{is_plain_byte, words_of, is_skipped}
use Rattle.hc_commands.specs.Grammar.{Form, is_built_form, IsForm, IsSpelled, names_after, HaveNoForm}
use Rattle.hc_commands.specs.Asks.{AsksFor, AreUnbuilt}
use Rattle.hc_commands.specs.declared.command.Command.{Command}
use Rattle.hc_script.specs.declared.fault.What.{What}
use Rattle.hc_script.specs.declared.fault.What.TheVariants.{Form as FormWord, Long, Size, Names, Unbuilt}
use Rattle.hc_script.specs.declared.line.Meaning.{Meaning}
use Rattle.hc_script.specs.declared.line.Meaning.TheVariants.{Nothing, Asked, Refused}

-- each byte but the newline is one that a command may have
abbrev pub is_plain : List ℕ → Bool
is_plain line = list_all is_plain_byte (content line)

-- a byte of the line is none that a command may have, or its words have no form
abbrev pub HasNoForm : List ℕ → Type 0
HasNoForm line = (is_plain line ≡ false) ⊎ ((is_plain line ≡ true) × HaveNoForm (words_of line))

-- a line of few enough bytes that asks for something
pub record IsQuestion (line : List ℕ) : Type 0 where
  pub short : IsShort line
  pub unskipped : is_skipped line ≡ false

-- the line asks for a command, and there would be too many names after it
pub record AsksForTooMany (names : List (List ℕ)) (line : List ℕ) : Type 0 where
  pub question : IsQuestion line
  pub plain : is_plain line ≡ true
  pub form : Form
  pub is_form : IsForm form
  pub spelling : IsSpelled form (words_of line)
  pub built : is_built_form form ≡ true
  pub too_many : MAX_NAMES < length (names_after names form)

-- the line is refused behind these names, by itself: as too long; for a byte, or for words that have no form; for a
-- command that isn't built; for too many names
abbrev pub IsRefusedBehind : List (List ℕ) → List ℕ → What → Type 0
IsRefusedBehind names line Size = ⊥
IsRefusedBehind names line Long = IsLong line
IsRefusedBehind names line FormWord =
    IsQuestion line × HasNoForm line
IsRefusedBehind names line Unbuilt = IsQuestion line × (is_plain line ≡ true) × AreUnbuilt (words_of line)
IsRefusedBehind names line Names = AsksForTooMany names line

-- the line asks for a command, behind these names
pub record IsUnderstood (names : List (List ℕ)) (line : List ℕ) (command : Command) (after : List (List ℕ)) : Type 0 where
  pub question : IsQuestion line
  pub plain : is_plain line ≡ true
  pub asks : AsksFor names (words_of line) command after
  pub room : length after ≤ MAX_NAMES

-- nothing, a command with the names after it, or no command
abbrev pub Means : List (List ℕ) → List ℕ → Meaning → List (List ℕ) → Type 0
Means names line Nothing after = IsShort line × (is_skipped line ≡ true) × (after ≡ names)
Means names line (Asked command) after = IsUnderstood names line command after
Means names line (Refused what) after = IsRefusedBehind names line what
