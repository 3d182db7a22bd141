use Rattle.hc_commands.proofs.FormsApart.{found_or_none}
use Rattle.hc_commands.proofs.grammar.request_of.Goals as goal

pub returns-clause-none : goal.returns-clause-none
returns-clause-none c =
    found_or_none _ c.in_ok-verb.verb _ _ _ c.in_ok-word.ensures.some c.in_ok-verb.ensures.some c.request_behind.ensures.none
