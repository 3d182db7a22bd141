use Rattle.hc_names.proofs.Lists.{with_text-HasNoRepeats, with_text-named}
use Rattle.hc_names.proofs.laws.interning_keeps_names.Goals as goal

pub returns-clause-distinct : goal.returns-clause-distinct
returns-clause-distinct c = with_text-HasNoRepeats

pub returns-clause-named : goal.returns-clause-named
returns-clause-named c = with_text-named
