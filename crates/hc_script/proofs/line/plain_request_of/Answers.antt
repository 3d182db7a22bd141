use Rattle.hc_script.proofs.PlainLine.{found_plain, not_found}
use Rattle.hc_script.proofs.line.plain_request_of.Goals as goal

pub returns-clause-plain : goal.returns-clause-plain
returns-clause-plain c =
    found_plain c.commands_are_plain.ensures c.args.line.now c.request_of.result c.requires c.request_of.ensures.form c.request_of.ensures.words

pub returns-clause-none : goal.returns-clause-none
returns-clause-none c = not_found c.args.line.now c.request_of.result c.request_of.ensures.none
