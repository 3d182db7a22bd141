use Rattle.std.proofs.Common.{sym, arith}
use Rattle.hc_planner.specs.Machine.{rest_at}
use Rattle.hc_planner.proofs.Walks.{walk-on}
use Rattle.hc_planner.proofs.seeker.Search.walked.Goals as goal

pub returns-else-left-eq0-clause-asks : goal.returns-else-left-eq0-clause-asks
unfolding rest_at
returns-else-left-eq0-clause-asks c = λ next. rw c.in-Some.is (sym (walk-on c.args.self.now.what c.args.self.now.most c.args.self.now.map c.args.self.now.gate c.args.left next c.args.self.now.chain c.in-Some.object (omega (arith, c.if-left-eq0.false))))
