use Rattle.std.proofs.Common.{refl}
use Rattle.hc_planner.specs.Machine.{rest_at}
use Rattle.hc_planner.proofs.Stepping.{steps-of}
use Rattle.hc_planner.proofs.seeker.Seeker.look_at_chain.Goals as goal

pub returns-in-Object-clause-steps : goal.returns-in-Object-clause-steps
unfolding rest_at
returns-in-Object-clause-steps g c = steps-of c.object_map-on.ensures.peeked _ _ _ (λ next. rw c.in-Object.is refl) c.after_object-self.ensures.asks

pub returns-in-Gate-clause-steps : goal.returns-in-Gate-clause-steps
unfolding rest_at
returns-in-Gate-clause-steps g c = steps-of c.gate-gate.ensures.peeked _ _ _ (λ next. rw c.in-Gate.is refl) c.after_holder_gate-self.ensures.asks

pub returns-in-Proto-clause-steps : goal.returns-in-Proto-clause-steps
unfolding rest_at
returns-in-Proto-clause-steps g c = steps-of c.proto-proto.ensures.peeked _ _ _ (λ next. rw c.in-Proto.is refl) c.after_holder_proto-self.ensures.asks
