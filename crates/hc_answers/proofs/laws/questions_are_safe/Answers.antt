use Rattle.hc_answers.proofs.Safe.{question-safe}
use Rattle.hc_answers.proofs.laws.questions_are_safe.Goals as goal

pub returns : goal.returns
returns c = record {
  law = question-safe (record {
    at_each = c.lawful_at_each.ensures.law;
    go_on = c.positions_go_on.ensures.law;
    say = c.words_say.ensures.law;
    nothing = c.unused_says_nothing.ensures.law;
    within = c.writes_are_within.ensures.law;
    kept = c.written_is_kept.ensures.law;
    rise = c.details_rise.ensures.law;
    grow = c.stores_grow.ensures.law;
    opened = c.gates_are_open.ensures.law;
    forms = c.forms_are_kept.ensures.law;
    chained = c.links_are_chained.ensures.law;
    lead = c.links_lead.ensures.law;
    few = c.links_are_few.ensures.law;
  });
}
