use Rattle.hc_script.proofs.Asking.{two_ask}
use Rattle.hc_script.proofs.generator.words.counted_request.Goals as goal

pub returns-clause-none : goal.returns-clause-none
returns-clause-none c = two_ask c.request_from.result c.args.verb.now c.args.count.now c.request_from.ensures.none
