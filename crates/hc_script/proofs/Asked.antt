-- A command that a call of the reader takes has its numbers among the names, and is built.
use Rattle.std.proofs.Common.{◌≡◌, ℕ, List, length, true, Option, Some, None, Result, Ok, Err, IfSome, IfOk}
use Rattle.hc_commands.specs.Verbs.{IsBuilt}
use Rattle.hc_commands.specs.Grammar.{Form, is_built_form, IsForm, command_of, names_after}
use Rattle.hc_commands.specs.Numbers.{IsCommandBelow}
use Rattle.hc_script.specs.Reading.{Position, Serves}
use Rattle.hc_commands.specs.declared.command.Command.{Command}
use Rattle.hc_script.specs.declared.fault.ScriptFault.{ScriptFault}

pub served_below : ((names : List (List ℕ)) (form : Form) → IsForm form → IsCommandBelow (length (names_after names form)) (command_of names form)) → (at after : Position) (before now : Option (List ℕ)) (found : Result (Option Command) ScriptFault) → Serves at before found after now → IfOk found (λ command. IfSome command (λ asked. IsCommandBelow (length after.names) asked))
served_below below at after before now (Ok (Some command)) took =
    let asks = took.asked.understood.asks in rw (asks.command_is, asks.names_are) (below took.there.names asks.form asks.is_form)
served_below below at after before now (Ok None) took = tt
served_below below at after before now (Err fault) took = tt

pub served_built : ((names : List (List ℕ)) (form : Form) → is_built_form form ≡ true → IsBuilt (command_of names form)) → (at after : Position) (before now : Option (List ℕ)) (found : Result (Option Command) ScriptFault) → Serves at before found after now → IfOk found (λ command. IfSome command (λ asked. IsBuilt asked))
served_built built at after before now (Ok (Some command)) took =
    let asks = took.asked.understood.asks in rw asks.command_is (built took.there.names asks.form asks.built)
served_built built at after before now (Ok None) took = tt
served_built built at after before now (Err fault) took = tt
