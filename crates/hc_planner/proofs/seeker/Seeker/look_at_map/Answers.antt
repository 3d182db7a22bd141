use Rattle.std.proofs.Common.{refl}
use Rattle.hc_planner.specs.Machine.{rest_at}
use Rattle.hc_planner.proofs.Stepping.{steps-of}
use Rattle.hc_planner.proofs.seeker.Seeker.look_at_map.Goals as goal

pub returns-in-Bits-clause-steps : goal.returns-in-Bits-clause-steps
unfolding rest_at
returns-in-Bits-clause-steps g c = steps-of c.bits-bits.ensures.peeked _ _ _ (λ next. rw c.in-Bits.is refl) c.after_bits-self.ensures.asks

pub returns-in-Gate-clause-steps : goal.returns-in-Gate-clause-steps
unfolding rest_at
returns-in-Gate-clause-steps g c = steps-of c.gate-gate.ensures.peeked _ _ _ (λ next. rw c.in-Gate.is refl) c.after_gate-self.ensures.asks

pub returns-in-Proto-clause-steps : goal.returns-in-Proto-clause-steps
unfolding rest_at
returns-in-Proto-clause-steps g c = steps-of c.proto-proto.ensures.peeked _ _ _ (λ next. rw c.in-Proto.is refl) c.after_proto-self.ensures.asks

pub returns-in-Base-clause-steps : goal.returns-in-Base-clause-steps
unfolding rest_at
returns-in-Base-clause-steps g c = steps-of c.base-base.ensures.peeked _ _ _ (λ next. rw c.in-Base.is refl) c.after_base-self.ensures.asks

pub returns-in-Key-clause-steps : goal.returns-in-Key-clause-steps
unfolding rest_at
returns-in-Key-clause-steps g c = steps-of c.entry_key-key.ensures.peeked _ _ _ (λ next. rw c.in-Key.is refl) c.after_key-self.ensures.asks
