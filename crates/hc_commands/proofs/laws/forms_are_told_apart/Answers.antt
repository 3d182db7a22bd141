use Rattle.hc_commands.proofs.Apart.{values_apart}
use Rattle.hc_commands.proofs.WordsApart.{verbs_apart}
use Rattle.hc_commands.proofs.FormsApart.{forms_apart}
use Rattle.hc_commands.proofs.laws.forms_are_told_apart.Goals as goal

pub returns-clause-values : goal.returns-clause-values
returns-clause-values c = values_apart

pub returns-clause-verbs : goal.returns-clause-verbs
returns-clause-verbs c = verbs_apart

pub returns-clause-forms : goal.returns-clause-forms
returns-clause-forms c = forms_apart
