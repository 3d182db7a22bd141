use Rattle.std.proofs.Common.{refl}
use Rattle.hc_planner.specs.Machine.{rest_at}
use Rattle.hc_planner.proofs.Capped.{peeked-capped}
use Rattle.hc_planner.proofs.Stepping.{steps-of}
use Rattle.hc_planner.proofs.seeker.Seeker.look_at_link.Goals as goal

pub returns-in-Head-clause-steps : goal.returns-in-Head-clause-steps
unfolding rest_at
returns-in-Head-clause-steps g c = steps-of c.head-head.ensures.peeked _ _ _ (λ next. rw c.in-Head.is refl) c.after_head-self.ensures.asks

pub returns-in-Key-clause-steps : goal.returns-in-Key-clause-steps
unfolding rest_at
returns-in-Key-clause-steps g c = steps-of c.link_key-key.ensures.peeked _ _ _ (λ next. rw c.in-Key.is refl) c.after_link_key-self.ensures.asks

pub returns-in-Next-clause-steps : goal.returns-in-Next-clause-steps
unfolding rest_at
returns-in-Next-clause-steps g c = steps-of c.link_next-next_link.ensures.peeked _ _ _ (λ next. rw c.in-Next.is refl) c.after_next-self.ensures.asks

pub returns-in-Child-clause-steps : goal.returns-in-Child-clause-steps
unfolding rest_at
returns-in-Child-clause-steps g c = steps-of c.link_child-child.ensures.peeked _ _ _ (λ next. rw c.in-Child.is refl) c.after_child-self.ensures.asks

pub returns-in-Bits-clause-steps : goal.returns-in-Bits-clause-steps
unfolding rest_at
returns-in-Bits-clause-steps g c = steps-of c.bits-bits.ensures.peeked _ _ _ (λ next. rw c.in-Bits.is refl) c.after_child_bits-self.ensures.asks

pub returns-in-Gate-clause-steps : goal.returns-in-Gate-clause-steps
unfolding rest_at
returns-in-Gate-clause-steps g c = steps-of c.gate-gate.ensures.peeked _ _ _ (λ next. rw c.in-Gate.is refl) c.after_child_gate-self.ensures.asks

pub returns-in-Base-clause-steps : goal.returns-in-Base-clause-steps
unfolding rest_at
returns-in-Base-clause-steps g c = steps-of c.base-base.ensures.peeked _ _ _ (λ next. rw c.in-Base.is refl) c.after_child_base-self.ensures.asks

pub returns-in-Reference-clause-steps : goal.returns-in-Reference-clause-steps
unfolding rest_at
returns-in-Reference-clause-steps g c = steps-of (peeked-capped c.requires.fits c.saturating_add.ensures c.reference-field.ensures.peeked) _ _ _ (λ next. rw c.in-Reference.is refl) c.after_child_reference-self.ensures.asks
