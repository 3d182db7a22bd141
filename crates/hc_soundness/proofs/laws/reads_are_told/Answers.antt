use Rattle.hc_soundness.proofs.Telling.{reads-told}
use Rattle.hc_soundness.proofs.laws.reads_are_told.Goals as goal

pub returns : goal.returns
returns c = record {
  law = λ s stores position site what maps mega reads plan lawful are told.
      reads-told c.words_say.ensures.law c.positions_go_on.ensures.law c.written_is_kept.ensures.law c.entries_are_kept.ensures.law c.links_are_chained.ensures.law c.links_lead.ensures.law
      s stores lawful site what maps mega reads plan told position are;
}
