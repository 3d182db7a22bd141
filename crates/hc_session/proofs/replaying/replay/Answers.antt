use Rattle.hc_session.proofs.Causes.{refused_told, accepted_told}
use Rattle.hc_session.proofs.FirstRefused.{OneMeaning}
use Rattle.hc_session.proofs.OnTables.{replies_as_tables}
use Rattle.hc_session.proofs.replaying.replay.Goals as goal

pub returns-clause-replies : goal.returns-clause-replies
returns-clause-replies g c asked = replies_as_tables _ _ _ _ _ (c.stands.ensures.untouched c.requires) (c.replay_words.ensures.kept asked)

pub returns-clause-refused : goal.returns-clause-refused
returns-clause-refused g c asked =
    let law : OneMeaning = record {
      asked = c.lines_have_one_meaning.ensures.asked;
      refused = c.lines_have_one_meaning.ensures.refused;
      passed_or_asked = c.lines_have_one_meaning.ensures.passed_or_asked;
      passed_or_refused = c.lines_have_one_meaning.ensures.passed_or_refused;
      asked_or_refused = c.lines_have_one_meaning.ensures.asked_or_refused;
    } in
    refused_told _ _ _ law _ _ _ _ _ _ _ (c.replay_words.ensures.kept asked) c.replay_words.ensures.read c.replay_words.ensures.write

pub returns-clause-complete : goal.returns-clause-complete
returns-clause-complete g c asked =
    let law : OneMeaning = record {
      asked = c.lines_have_one_meaning.ensures.asked;
      refused = c.lines_have_one_meaning.ensures.refused;
      passed_or_asked = c.lines_have_one_meaning.ensures.passed_or_asked;
      passed_or_refused = c.lines_have_one_meaning.ensures.passed_or_refused;
      asked_or_refused = c.lines_have_one_meaning.ensures.asked_or_refused;
    } in
    accepted_told _ _ _ law _ _ _ _ _ _ _ (c.replay_words.ensures.kept asked) c.replay_words.ensures.read c.replay_words.ensures.write
