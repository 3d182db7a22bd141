-- A line taken from the front of what lies ahead.
use Rattle.std.proofs.Common.{◌≡◌, ℕ, List, [], ◌++◌, take, drop, length, refl, Option, Some, None, Result, Ok, Err, IfOk, IfErr, OnOk}
use Rattle.std.proofs.lemmas.List.{length-take-le}
use Rattle.hc_lines.specs.Lines.{lines_of, ahead}
use Rattle.hc_lines.specs.Fetch.{IsFirstLine}
use Rattle.hc_script.specs.Reading.{Position, IsPassed, IsAsked, IsRefused, MeetsRefused}
use Rattle.hc_script.specs.Turn.{TakesTurn, FailsTurn, IsLineFault}
use Rattle.hc_commands.specs.declared.command.Command.{Command}
use Rattle.hc_script.specs.declared.reader.Turn.{Turn}
use Rattle.hc_script.specs.declared.reader.Turn.TheVariants.{End, Passed, Asked}
use Rattle.hc_script.specs.declared.fault.ScriptFault.{ScriptFault}
use Rattle.hc_script.specs.declared.fault.ScriptFault.TheVariants.{Bad, Read, Memory}
use Rattle.hc_script.specs.declared.fault.What.{What}

-- what was done with the line is the turn
pub takes_turn : (at : Position) (n : ℕ) (pending rest : List ℕ) (left : Option (List ℕ)) (result : Result Turn ScriptFault) (after : Position) → IsFirstLine at.bytes pending left n → (result ≡ Ok Passed → IsPassed at (take n pending) after) → ((command : Command) → result ≡ Ok (Asked command) → IsAsked at (take n pending) command after) → OnOk result (rest ≡ drop n pending) → (result ≡ Ok End → ⊥) → IfOk result (λ turn. TakesTurn at (ahead pending left) turn after (ahead rest left))
takes_turn at n pending rest left (Ok End) after found passed asked taken goes_on = absurd (goes_on refl)
takes_turn at n pending rest left (Ok Passed) after found passed asked taken goes_on =
    (take n pending, (let len : length (take n pending) ≡ n = length-take-le n pending found.there in rw len found.some), passed refl, rw taken found.first)
takes_turn at n pending rest left (Ok (Asked command)) after found passed asked taken goes_on =
    (take n pending, (let len : length (take n pending) ≡ n = length-take-le n pending found.there in rw len found.some), asked command refl, rw taken found.first)
takes_turn at n pending rest left (Err fault) after found passed asked taken goes_on = tt

-- a refused line is met
meets_refused : (at : Position) (n : ℕ) (pending : List ℕ) (left : Option (List ℕ)) (what : What) → IsFirstLine at.bytes pending left n → IsRefused at (take n pending) what → MeetsRefused at (ahead pending left) [] what
meets_refused at n pending None what found refused = tt
meets_refused at n pending (Some left) what found refused = (take n pending, lines_of (drop n pending ++ left), found.first, refused)

-- what was wrong with the line is wrong with the turn
pub fails_turn : (at : Position) (n : ℕ) (pending : List ℕ) (left : Option (List ℕ)) (result : Result Turn ScriptFault) (after : Position) (now : Option (List ℕ)) → IsFirstLine at.bytes pending left n → IfErr result (λ fault. IsLineFault at (take n pending) fault) → IfErr result (λ fault. FailsTurn at (ahead pending left) fault after now)
fails_turn at n pending left (Ok turn) after now found refused = tt
fails_turn at n pending left (Err (Bad number what)) after now found refused = (refused.0, meets_refused at n pending left what found refused.1)
fails_turn at n pending left (Err Read) after now found refused = absurd refused
fails_turn at n pending left (Err Memory) after now found refused = tt
