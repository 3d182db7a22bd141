-- What a reader makes of a line, by its meaning.
use Rattle.std.proofs.Common.{◌≡◌, ℕ, ◌+◌, ◌≤◌, List, length, refl, Result, Ok, Err, IfOk, take}
use Rattle.std.proofs.lemmas.List.{length-take-le}
use Rattle.hc_value.specs.declared.memory.Memory.{Memory as OutOfMemory}
use Rattle.hc_script.specs.Line.{Means, IsRefusedBehind}
use Rattle.hc_script.specs.Reading.{Position, IsWithin, IsPassed, IsAsked, IsRefused}
use Rattle.hc_script.specs.Turn.{IsLineFault, turn_for}
use Rattle.hc_commands.specs.declared.command.Command.{Command}
use Rattle.hc_script.specs.declared.fault.ScriptFault.{ScriptFault}
use Rattle.hc_script.specs.declared.fault.ScriptFault.TheVariants.{Bad, Memory}
use Rattle.hc_script.specs.declared.fault.What.{What}
use Rattle.hc_script.specs.declared.fault.What.TheVariants.{Form, Long, Size, Names, Unbuilt}
use Rattle.hc_lines.specs.declared.limits.TheConstants.{MAX_BYTES}
use Rattle.hc_script.specs.declared.line.Meaning.{Meaning}
use Rattle.hc_script.specs.declared.line.Meaning.TheVariants.{Nothing, Asked as AskedFor, Refused}
use Rattle.hc_script.specs.declared.reader.Turn.{Turn}
use Rattle.hc_script.specs.declared.reader.Turn.TheVariants.{End, Passed, Asked}

-- the meaning of a line that is this turn
abbrev pub TurnMeans : List (List ℕ) → List ℕ → Turn → List (List ℕ) → Type 0
TurnMeans names line End after = ⊥
TurnMeans names line Passed after = Means names line Nothing after
TurnMeans names line (Asked command) after = Means names line (AskedFor command) after

pub turn_means : (names : List (List ℕ)) (line : List ℕ) (number : ℕ) (meaning : Result Meaning OutOfMemory) (turn : Turn) (after : List (List ℕ)) → IfOk meaning (λ meant. Means names line meant after) → turn_for meaning number ≡ Ok turn → TurnMeans names line turn after
turn_means names line number (Ok Nothing) End after means e = absurd (cc)
turn_means names line number (Ok Nothing) Passed after means e = means
turn_means names line number (Ok Nothing) (Asked command) after means e = absurd (cc)
turn_means names line number (Ok (AskedFor asked)) End after means e = absurd (cc)
turn_means names line number (Ok (AskedFor asked)) Passed after means e = absurd (cc)
turn_means names line number (Ok (AskedFor asked)) (Asked command) after means e = let same : asked ≡ command = cc in rw (← same) means
turn_means names line number (Ok (Refused what)) turn after means e = absurd (cc)
turn_means names line number (Err out) turn after means e = absurd (cc)

-- a line that is refused behind the names so far, and lies within the bytes of a script
refused_within : (at : Position) (line : List ℕ) (what : What) → IsWithin at line → IsRefusedBehind at.names line what → IsRefused at line what
refused_within at line Size within refused = absurd refused
refused_within at line Long within refused = (within, refused)
refused_within at line Form within refused = (within, refused)
refused_within at line Unbuilt within refused = (within, refused)
refused_within at line Names within refused = (within, refused)

pub turn_refuses : (at : Position) (line : List ℕ) (meaning : Result Meaning OutOfMemory) (fault : ScriptFault) (after : List (List ℕ)) → IsWithin at line → IfOk meaning (λ meant. Means at.names line meant after) → turn_for meaning (at.lines + 1) ≡ Err fault → IsLineFault at line fault
turn_refuses at line (Ok Nothing) fault after within means e = absurd (cc)
turn_refuses at line (Ok (AskedFor command)) fault after within means e = absurd (cc)
turn_refuses at line (Ok (Refused what)) fault after within means e =
    let same : Bad (at.lines + 1) what ≡ fault = cc in rw (← same) (refl, refused_within at line what within means)
turn_refuses at line (Err out) fault after within means e = let same : Memory ≡ fault = cc in rw (← same) tt

-- a line whose turn is to be passed over
pub is_passed : (at : Position) (buffer : List ℕ) (n : ℕ) (turn : Turn) (after : List (List ℕ)) → n ≤ length buffer → at.bytes + n ≤ MAX_BYTES → TurnMeans at.names (take n buffer) turn after → turn ≡ Passed → IsPassed at (take n buffer) (record { names = after; lines = at.lines + 1; bytes = at.bytes + n })
is_passed at buffer n turn after there within means e =
    let passed = rw e at means in
    let len : length (take n buffer) ≡ n = length-take-le n buffer there in
    record {
      within = rw len within;
      short = passed.0;
      skipped = passed.1;
      goes_on = rw (len, passed.2);
    }

-- a line whose turn is a command
pub is_asked : (at : Position) (buffer : List ℕ) (n : ℕ) (turn : Turn) (command : Command) (after : List (List ℕ)) → n ≤ length buffer → at.bytes + n ≤ MAX_BYTES → TurnMeans at.names (take n buffer) turn after → turn ≡ Asked command → IsAsked at (take n buffer) command (record { names = after; lines = at.lines + 1; bytes = at.bytes + n })
is_asked at buffer n turn command after there within means e =
    let asks = rw e at means in
    let len : length (take n buffer) ≡ n = length-take-le n buffer there in
    record {
      within = rw len within;
      understood = asks;
      goes_on = rw len;
    }
