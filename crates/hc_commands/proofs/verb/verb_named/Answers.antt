use Rattle.hc_commands.proofs.WordsApart.{found_verb, no_verb}
use Rattle.hc_commands.proofs.verb.verb_named.Goals as goal

pub returns-clause-some : goal.returns-clause-some
returns-clause-some c = rw c.look_up.ensures (found_verb c.args.word.now)

pub returns-clause-none : goal.returns-clause-none
returns-clause-none c = rw c.look_up.ensures (no_verb c.args.word.now)
