use Rattle.hc_installed.proofs.Keeping.{quiet-sites}
use Rattle.hc_installed.proofs.laws.quiet_breaks_no_plan.Goals as goal

pub returns : goal.returns
returns c = record { law = λ old v d sites heap desk goes same h. quiet-sites c.holds_as_the_trail_says.ensures.law c.quiet_breaks_none.ensures.law old v d heap desk goes same sites h }
