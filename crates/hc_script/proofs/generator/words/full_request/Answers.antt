use Rattle.hc_script.proofs.Asking.{none_asks, three_ask}
use Rattle.hc_script.proofs.generator.words.full_request.Goals as goal

pub returns-in_err-number-clause-none : goal.returns-in_err-number-clause-none
returns-in_err-number-clause-none c =
    rw c.from_residual.ensures (none_asks c.args.verb.now c.args.count.now c.args.start.now c.in_err-number.ensures.none)

pub returns-clause-none : goal.returns-clause-none
returns-clause-none c =
    three_ask c.request_from.result c.args.verb.now c.args.count.now c.args.start.now c.request_from.ensures.none
