use Rattle.hc_soundness.proofs.Installing.{told-all-hold}
use Rattle.hc_soundness.proofs.laws.told_at_once_holds.Goals as goal

pub returns : goal.returns
returns c = record {
  law = λ v d kept site what maps mega reads plan rest desk are told.
      told-all-hold c.holds_as_the_trail_says.ensures.law c.stores_are_writes.ensures.law v d kept rest desk site what maps mega reads plan c.told_is_of_site.ensures.law told
      c.reads_are_told.ensures.law c.told_is_borne.ensures.law are;
}
