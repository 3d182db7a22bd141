use Rattle.hc_names.proofs.Lists.{number_of-below, number_of-names}
use Rattle.hc_names.proofs.laws.present_text_is_named.Goals as goal

pub returns-clause-below : goal.returns-clause-below
returns-clause-below c = number_of-below

pub returns-clause-named : goal.returns-clause-named
returns-clause-named c = number_of-names
