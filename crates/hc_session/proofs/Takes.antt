-- What a call of the reader leads to.
use Rattle.std.proofs.Common.{◌≡◌, ℕ, ◌<◌, ◌≤◌, true, false, List, [], ◌∷◌, length, ◌∙◌, ap, arith, Option}
use Rattle.hc_commands.specs.Grammar.{Form, names_after}
use Rattle.hc_script.specs.Reading.{Position, IsAsked, ArePassed, TakesCommand}
use Rattle.hc_commands.specs.declared.command.Command.{Command}
use Rattle.hc_lines.specs.declared.limits.TheConstants.{MAX_BYTES}

passed_names : (at after : Position) (lines : List (List ℕ)) → ArePassed at lines after → after.names ≡ at.names
passed_names at after [] passed = ap (λ (p : Position). p.names) passed
passed_names at after (line ∷ lines) passed =
    passed_names passed.0 after lines passed.2 ∙ ap (λ (p : Position). p.names) passed.1.goes_on

passed_bytes : (at after : Position) (lines : List (List ℕ)) → ArePassed at lines after → at.bytes ≤ after.bytes
passed_bytes at after [] passed = omega (arith, ap (λ (p : Position). p.bytes) passed)
passed_bytes at after (line ∷ lines) passed =
    omega (arith, passed_bytes passed.0 after lines passed.2, ap (λ (p : Position). p.bytes) passed.1.goes_on)

asked_bytes : (at after : Position) (line : List ℕ) (command : Command) → IsAsked at line command after → at.bytes < after.bytes
asked_bytes at after [] command asked = absurd (let no : true ≡ false = asked.understood.question.unskipped in cc)
asked_bytes at after (byte ∷ line) command asked = omega (arith, ap (λ (p : Position). p.bytes) asked.goes_on)

-- a command's line isn't empty
pub command_moves : (at after : Position) (before now : Option (List ℕ)) (command : Command) → TakesCommand at before command after now → at.bytes < after.bytes
command_moves at after before now command took =
    omega (arith, passed_bytes at took.there took.passed took.are_passed, asked_bytes took.there after took.line command took.asked)

-- and ends within the bytes of a script
pub command_within : (at after : Position) (before now : Option (List ℕ)) (command : Command) → TakesCommand at before command after now → after.bytes ≤ MAX_BYTES
command_within at after before now command took =
    omega (arith, took.asked.within, ap (λ (p : Position). p.bytes) took.asked.goes_on)

-- no name is lost
pub command_keeps_names : ((names : List (List ℕ)) (form : Form) → length names ≤ length (names_after names form)) → (at after : Position) (before now : Option (List ℕ)) (command : Command) → TakesCommand at before command after now → length at.names ≤ length after.names
command_keeps_names grow at after before now command took =
    let asks = took.asked.understood.asks in
    let same : took.there.names ≡ at.names = passed_names at took.there took.passed took.are_passed in
    let grown : length took.there.names ≤ length (names_after took.there.names asks.form) = grow took.there.names asks.form in
    omega (arith, grown, ap (λ (names : List (List ℕ)). length names) same, ap (λ (names : List (List ℕ)). length names) asks.names_are)
