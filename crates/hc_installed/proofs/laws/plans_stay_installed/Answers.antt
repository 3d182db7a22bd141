use Rattle.hc_installed.proofs.Keeping.{sites-stay}
use Rattle.hc_installed.proofs.laws.plans_stay_installed.Goals as goal

pub returns : goal.returns
returns c = record { law = λ old v d kept sites rest desk goes constants h. sites-stay c.unbroken_is_borne.ensures.law old v d kept rest desk goes constants sites h }
