use Rattle.hc_installed.proofs.Answering.{hits-stay, misses-stay}
use Rattle.hc_installed.proofs.laws.loads_keep_answers.Goals as goal

pub returns : goal.returns
returns g c = record { hit = hits-stay; miss = misses-stay }
