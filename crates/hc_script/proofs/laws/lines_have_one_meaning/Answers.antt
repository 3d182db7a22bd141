use Rattle.hc_script.proofs.OneMeaning.{asked_once, refused_once, passed_or_asked, passed_or_refused, asked_or_refused, some_meaning}
use Rattle.hc_script.proofs.laws.lines_have_one_meaning.Goals as goal

pub returns-clause-asked : goal.returns-clause-asked
returns-clause-asked c = asked_once c.forms_are_told_apart.ensures.forms

pub returns-clause-refused : goal.returns-clause-refused
returns-clause-refused c = refused_once c.forms_are_told_apart.ensures.forms

pub returns-clause-passed_or_asked : goal.returns-clause-passed_or_asked
returns-clause-passed_or_asked c = passed_or_asked

pub returns-clause-passed_or_refused : goal.returns-clause-passed_or_refused
returns-clause-passed_or_refused c = passed_or_refused

pub returns-clause-asked_or_refused : goal.returns-clause-asked_or_refused
returns-clause-asked_or_refused c = asked_or_refused c.forms_are_told_apart.ensures.forms

pub returns-clause-some_meaning : goal.returns-clause-some_meaning
returns-clause-some_meaning c = some_meaning
