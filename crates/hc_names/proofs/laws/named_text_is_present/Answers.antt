use Rattle.hc_names.proofs.Lists.{has_text-named, number_of-named}
use Rattle.hc_names.proofs.laws.named_text_is_present.Goals as goal

pub returns-clause-present : goal.returns-clause-present
returns-clause-present c = has_text-named

pub returns-clause-number : goal.returns-clause-number
returns-clause-number c = number_of-named
