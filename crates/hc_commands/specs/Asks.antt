-- What the words of a line ask for.
use Rattle.std.specs.Prelude.{◌≡◌, ℕ, true, false, List}
use Rattle.hc_commands.specs.Grammar.{Form, is_built_form, IsForm, IsSpelled, command_of, names_after}
use Rattle.hc_commands.specs.declared.command.Command.{Command}

-- the words are those of a command that is built, and these are the command and the names after it
pub record AsksFor (names words : List (List ℕ)) (command : Command) (after : List (List ℕ)) : Type 0 where
  pub form : Form
  pub is_form : IsForm form
  pub spelling : IsSpelled form words
  pub built : is_built_form form ≡ true
  pub command_is : command ≡ command_of names form
  pub names_are : after ≡ names_after names form

-- the words are those of a command that isn't built
pub record AreUnbuilt (words : List (List ℕ)) : Type 0 where
  pub form : Form
  pub is_form : IsForm form
  pub spelling : IsSpelled form words
  pub unbuilt : is_built_form form ≡ false
