use Rattle.hc_facts.proofs.Facts.{carried-on}
use Rattle.hc_facts.proofs.laws.kept_is_carried.Goals as goal

pub returns : goal.returns
returns c = record { law = carried-on c.details_rise.ensures.law c.entries_are_kept.ensures.law c.forms_are_kept.ensures.law c.gates_are_open.ensures.law (λ s old new m g goes is. (c.written_is_kept.ensures.law s old new goes).gate m g is) }
