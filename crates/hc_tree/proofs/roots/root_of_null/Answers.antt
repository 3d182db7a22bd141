use Rattle.hc_tree.proofs.Fresh.{known-space}
use Rattle.hc_tree.proofs.roots.root_of_null.Goals as goal

pub returns-in-Some-clause-space : goal.returns-in-Some-clause-space
returns-in-Some-clause-space g c = known-space c.args.h.now.view c.stands.ensures.heap c.args.of_null.now c.in-Some.root c.in-Some.is
