-- The script that is made from a number: a list of commands, each fixed by the number and the commands before it.
use Rattle.std.specs.Prelude.{ℕ, zero, suc, ◌+◌, ◌-◌, ◌*◌, ◌/◌, ◌%◌, ◌^◌, ◌==◌, nat_le, nat_lt, Bool, true, false, if◌then◌else◌, List, [], ◌∷◌, ◌++◌, length, map, replicate, count_by, slice_index_or, Some, None, pos, negsuc, codes}
use Rattle.hc_value.specs.declared.value.Value.{Value}
use Rattle.hc_commands.specs.Values.{WrittenValue, written_undefined, written_boolean, written_integer, written_text, written_object, value_of}
use Rattle.hc_plan.specs.declared.case.Op.TheVariants.{Load, Store}
use Rattle.hc_commands.specs.declared.command.Command.{Command}
use Rattle.hc_commands.specs.declared.command.Command.TheVariants.{New, Get, Set, Delete, SetProto, Declare, Exec, Compile, Finish}
use Rattle.hc_script.specs.declared.generator.draws.Draws.{Draws}
use Rattle.hc_script.specs.declared.generator.progress.Progress.{Progress}

-- a draw: the number after it
abbrev pub drawn : ℕ → ℕ
drawn x = (x * 6364136223846793005 + 1442695040888963407) % 2 ^ 64

-- the number after so many draws
abbrev pub after_draws : ℕ → ℕ → ℕ
after_draws zero x = x
after_draws (suc k) x = drawn (after_draws k x)

-- what a number tells below k: its upper 31 bits modulo k
abbrev pub told : ℕ → ℕ → ℕ
told x k = (x / 2 ^ 33) % k

-- four draws in this order: a row of the table; how far the object that is used lies behind the newest; a name, or a site;
-- a value
abbrev pub draws_from : ℕ → Draws
draws_from x = record {
  row = told (after_draws 1 x) 16;
  back = told (after_draws 2 x) 8;
  name = told (after_draws 3 x) 8;
  value = told (after_draws 4 x) 8;
}

-- the names by their numbers, and behind them the one text that is a value
abbrev pub the_names : List (List ℕ)
the_names =
    codes "n0" ∷ codes "n1" ∷ codes "n2" ∷ codes "n3" ∷ codes "n4" ∷ codes "n5" ∷ codes "n6" ∷ codes "n7" ∷ codes "t" ∷ []

-- the values, as a script writes them
abbrev pub the_values : List WrittenValue
the_values =
    written_integer (pos 0) ∷ written_integer (pos 1) ∷ written_integer (negsuc 6) ∷ written_integer (pos 1073741824)
    ∷ written_integer (pos 9007199254740991) ∷ written_text (codes "t") ∷ written_object 0 ∷ written_boolean true ∷ []

-- the value of this number
abbrev pub value_at : ℕ → Value
value_at v = value_of the_names (slice_index_or the_values v written_undefined)

-- the first sixteen commands: eight objects, and a site that reads and one that writes for each of four names
abbrev pub the_opening : List Command
the_opening =
    New None ∷ New (Some 0) ∷ replicate 6 (New (Some 1))
    ++ map (Declare Load) (0 ∷ 1 ∷ 2 ∷ 3 ∷ []) ++ map (Declare Store) (0 ∷ 1 ∷ 2 ∷ 3 ∷ [])

-- the object that is used
abbrev pub object_of : Draws → Progress → ℕ
object_of draws at = at.objects - 1 - draws.back

-- the first four sites read, the others write
abbrev pub exec_of : Draws → ℕ → Command
exec_of draws object =
    if nat_lt draws.name 4
    then Exec draws.name object None
    else Exec draws.name object (Some (value_at draws.value))

-- the last row: a deletion, a change of prototype, or a write to one of the two oldest objects, the prototypes of the others
abbrev pub rare_of : Draws → ℕ → Command
rare_of draws object =
    if draws.value == 0 then Delete object draws.name
    else if draws.value == 1 then SetProto object (Some 0)
    else if nat_le draws.value 4 then Set 0 draws.name (value_at draws.value)
    else Set 1 draws.name (value_at draws.value)

-- the table of draws. Jobs finish in the order in which they were started
abbrev pub command_of_draws : Draws → Progress → Command
command_of_draws draws at =
    if nat_le draws.row 2 then Set (object_of draws at) draws.name (value_at draws.value)
    else if nat_le draws.row 4 then Get (object_of draws at) draws.name
    else if nat_le draws.row 9 then exec_of draws (object_of draws at)
    else if draws.row == 10
    then (if nat_lt (at.started - at.finished) 8 then Compile draws.name else Finish at.finished)
    else if nat_le draws.row 12 then Get (object_of draws at) draws.name
    else if draws.row == 13
    then (if nat_lt at.finished at.started then Finish at.finished else Compile draws.name)
    else if draws.row == 14 then New (Some 1)
    else rare_of draws (object_of draws at)

-- the command that comes next
abbrev pub next_command : Progress → Command
next_command at =
    if nat_lt at.given 16
    then slice_index_or the_opening at.given (New None)
    else command_of_draws (draws_from at.number) at

abbrev pub makes_object : Command → Bool
makes_object (New proto) = true
makes_object command = false

abbrev pub starts_job : Command → Bool
starts_job (Compile site) = true
starts_job command = false

abbrev pub finishes_job : Command → Bool
finishes_job (Finish job) = true
finishes_job command = false

-- how far a script has come behind these commands: each but the first sixteen took four draws
abbrev pub progress_behind : ℕ → List Command → Progress
progress_behind start commands = record {
  number = after_draws (4 * (length commands - 16)) start;
  objects = count_by makes_object commands;
  started = count_by starts_job commands;
  finished = count_by finishes_job commands;
  given = length commands;
}

-- one command more
abbrev pub with_next : ℕ → List Command → List Command
with_next start commands = commands ++ next_command (progress_behind start commands) ∷ []

-- the script of n commands from a start number
abbrev pub generated : ℕ → ℕ → List Command
generated zero start = []
generated (suc n) start = with_next start (generated n start)
