use Rattle.hc_installed.proofs.Settling.{had-held}
use Rattle.hc_installed.proofs.laws.refused_had_held.Goals as goal

pub returns : goal.returns
returns c = record {
  law = λ v d start site what reads outcome dep heap desk resting told verdict.
      had-held c.told_is_of_site.ensures.law c.reads_are_told.ensures.law c.told_is_borne.ensures.law v d heap desk start site what reads outcome dep resting told verdict;
}
