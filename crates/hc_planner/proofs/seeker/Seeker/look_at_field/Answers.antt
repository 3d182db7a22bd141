use Rattle.std.proofs.Common.{refl}
use Rattle.hc_planner.specs.Machine.{rest_at}
use Rattle.hc_planner.proofs.Capped.{peeked-capped}
use Rattle.hc_planner.proofs.Stepping.{steps-of}
use Rattle.hc_planner.proofs.seeker.Seeker.look_at_field.Goals as goal

pub returns-in-Reference-clause-steps : goal.returns-in-Reference-clause-steps
unfolding rest_at
returns-in-Reference-clause-steps g c = steps-of c.reference-field.ensures.peeked _ _ _ (λ next. rw c.in-Reference.is refl) c.after_reference-self.ensures.asks

pub returns-in-Detail-clause-steps : goal.returns-in-Detail-clause-steps
unfolding rest_at
returns-in-Detail-clause-steps g c = steps-of c.detail-detail.ensures.peeked _ _ _ (λ next. rw c.in-Detail.is refl) c.after_detail-self.ensures.asks

pub returns-in-Store-clause-steps : goal.returns-in-Store-clause-steps
unfolding rest_at
returns-in-Store-clause-steps g c = steps-of c.store-store.ensures.peeked _ _ _ (λ next. rw c.in-Store.is refl) c.after_store-self.ensures.asks

pub returns-in-Slot-clause-steps : goal.returns-in-Slot-clause-steps
unfolding rest_at
returns-in-Slot-clause-steps g c = steps-of (peeked-capped c.requires.fits c.saturating_add.ensures c.slot-word.ensures.peeked) _ _ _ (λ next. rw c.in-Slot.is refl) c.after_slot-self.ensures.asks
