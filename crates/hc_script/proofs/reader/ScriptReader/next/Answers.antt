use Rattle.hc_script.proofs.Asked.{served_below, served_built}
use Rattle.hc_script.proofs.reader.ScriptReader.next.Goals as goal

pub returns-clause-serves : goal.returns-clause-serves
returns-clause-serves g c going = rw (← c.self-2.view_is) at c.seek_command-found.ensures.serves

pub returns-clause-numbers : goal.returns-clause-numbers
returns-clause-numbers g c =
    let serves = rw (← c.self-2.view_is) at c.seek_command-found.ensures.serves in
    served_below c.commands_are_named.ensures.below _ _ _ _ _ serves

pub returns-clause-built : goal.returns-clause-built
returns-clause-built g c = served_built c.commands_are_named.ensures.built _ _ _ _ _ c.seek_command-found.ensures.serves
