use Rattle.hc_heap.proofs.Keeping.{words-at}
use Rattle.hc_heap.proofs.laws.words_say.Goals as goal

pub returns : goal.returns
returns c = record { law = words-at (record { lie = c.places_lie.ensures.law; found = c.places_are_found.ensures.law }) }
