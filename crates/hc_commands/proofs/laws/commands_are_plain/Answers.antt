use Rattle.hc_commands.proofs.Plain.{words_plain}
use Rattle.hc_commands.proofs.laws.commands_are_plain.Goals as goal

pub returns : goal.returns
returns c = words_plain
