use Rattle.std.proofs.Common.{refl}
use Rattle.hc_session.proofs.Ends.{ends_unbegun}
use Rattle.hc_session.proofs.Spends.{SpendLittle}
use Rattle.hc_session.proofs.replaying.replay_words.Goals as goal

pub returns-in_default-clause-kept : goal.returns-in_default-clause-kept
returns-in_default-clause-kept g c _ =
    let law : SpendLittle _ = record { one = c.operations_spend_little.ensures.one; live = c.operations_spend_little.ensures.live; none = c.operations_spend_little.ensures.none; onward = c.operations_spend_little.ensures.onward; more = c.operations_spend_little.ensures.more } in
    ends_unbegun law c.asking_is_little.ensures.cells _ c.stands.ensures.stands _ _ refl
