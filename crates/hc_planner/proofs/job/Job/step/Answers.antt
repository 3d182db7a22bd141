use Rattle.hc_planner.proofs.Owning.{own-step}
use Rattle.hc_planner.proofs.job.Job.step.Goals as goal

pub returns-then-is_done-clause-own : goal.returns-then-is_done-clause-own
returns-then-is_done-clause-own c = own-step c.args.self.now c.turn.new.self c.args.reader.now c.turn.new.reader c.look_adds_reads.ensures.law c.requires.own c.turn.ensures.turn c.turn.ensures.same

pub returns-else-is_done-clause-own : goal.returns-else-is_done-clause-own
returns-else-is_done-clause-own c = own-step c.args.self.now c.turn.new.self c.args.reader.now c.turn.new.reader c.look_adds_reads.ensures.law c.requires.own c.turn.ensures.turn c.turn.ensures.same
