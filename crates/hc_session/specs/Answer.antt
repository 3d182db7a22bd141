-- What the answer to one command writes.
use Rattle.std.specs.Prelude.{◌⊎◌, ℕ, List, Option}
use Rattle.hc_lines.specs.Outside.{AppendsBytes}
use Rattle.hc_commands.specs.declared.command.Command.{Command}
use Rattle.hc_session.specs.Output.{AppendsFront}
use Rattle.hc_session.specs.Plain.{Answer, answer_text}
use Rattle.hc_session.specs.Standing.{Standing}
use Rattle.hc_session.specs.State.{Does, Wants, any_pace}

-- the command was performed, and the lines of its answer written
pub record AnswersCommand {P : Type 0} (old : Standing P) (names : List (List ℕ)) (command : Command) (new : Standing P) (taken now : Option (List ℕ)) : Type 0 where
  pub answer : Answer
  pub does : Does any_pace old command answer new
  pub written : AppendsBytes taken (answer_text names answer) now

-- the command was performed, and a proper front of the lines of its answer written
pub record AnswersPartly {P : Type 0} (old : Standing P) (names : List (List ℕ)) (command : Command) (new : Standing P) (taken now : Option (List ℕ)) : Type 0 where
  pub answer : Answer
  pub does : Does any_pace old command answer new
  pub written : AppendsFront taken (answer_text names answer) now

-- the command lacked memory, or it was performed, and memory ran out for its lines
abbrev pub LacksMemory : {P : Type 0} → Standing P → Command → Standing P → Type 0
LacksMemory old command new = Wants any_pace old command new ⊎ ((answer : Answer) × Does any_pace old command answer new)
