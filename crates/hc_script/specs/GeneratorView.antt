-- A generator's fields as contracts see them, and what they keep.
use Rattle.std.specs.Prelude.{◌≡◌, ℕ, zero, suc, ◌+◌, ◌<◌, ◌≤◌, ◌^◌, min, nat_lt, if◌then◌else◌, List, [], ◌∷◌}
use Rattle.hc_commands.specs.declared.command.Command.{Command}
use Rattle.hc_script.specs.Generator.{after_draws, the_names, next_command, makes_object, starts_job, finishes_job}
use Rattle.hc_script.specs.declared.generator.progress.Progress.{Progress}
use Rattle.hc_script.specs.declared.generator.Generator.TheInside.{Inside}

-- one more command is counted
abbrev pub counted : Progress → Command → Progress
counted at command = record at {
  objects = if makes_object command then at.objects + 1 else at.objects;
  started = if starts_job command then at.started + 1 else at.started;
  finished = if finishes_job command then at.finished + 1 else at.finished;
  given = at.given + 1;
}

-- the number behind one more command
abbrev pub number_behind : Progress → ℕ
number_behind at = if nat_lt at.given 16 then at.number else after_draws 4 at.number

-- how far it has come behind one more command
abbrev pub one_further : Progress → Progress
one_further at = counted (record at { number = number_behind at }) (next_command at)

-- the next commands, so many
abbrev pub commands_from : ℕ → Progress → List Command
commands_from zero at = []
commands_from (suc n) at = next_command at ∷ commands_from n (one_further at)

-- no more is counted than commands were given; jobs are started before they finish; and behind the first eight commands there
-- are as many objects
pub record IsProgress (at : Progress) : Type 0 where
  pub objects : at.objects ≤ at.given
  pub started : at.started ≤ at.given
  pub finished : at.finished ≤ at.started
  pub eight : min at.given 8 ≤ at.objects

abbrev pub commands_left : Inside → List Command
commands_left fields = commands_from fields.left fields.progress

pub record IsGenerator (fields : Inside) : Type 0 where
  pub progress : IsProgress fields.progress
  pub room : fields.progress.given + fields.left < 2 ^ 32
  pub names : fields.names ≡ the_names
