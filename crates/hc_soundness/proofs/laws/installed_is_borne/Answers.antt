use Rattle.hc_soundness.proofs.Installing.{installed-borne}
use Rattle.hc_soundness.proofs.laws.installed_is_borne.Goals as goal

pub returns : goal.returns
returns c = record {
  law = λ v d kept from site what maps mega reads plan rest desk fits told hold.
      installed-borne c.holds_as_the_trail_says.ensures.law c.stores_are_writes.ensures.law v d kept rest desk site what maps mega reads plan c.told_is_of_site.ensures.law told
      c.reads_are_seen.ensures.law c.seen_is_borne.ensures.law from fits hold;
}
