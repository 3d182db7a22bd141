use Rattle.hc_commands.proofs.NamesAfter.{names_after_grow, command_below, command_built}
use Rattle.hc_commands.proofs.laws.commands_are_named.Goals as goal

pub returns-clause-grow : goal.returns-clause-grow
returns-clause-grow c = names_after_grow

pub returns-clause-below : goal.returns-clause-below
returns-clause-below c = command_below c.interning_keeps_names.ensures.named

pub returns-clause-built : goal.returns-clause-built
returns-clause-built c = command_built
