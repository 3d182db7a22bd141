use Rattle.hc_jobs.proofs.Opening.{others-stay}
use Rattle.hc_jobs.proofs.laws.others_stay_open.Goals as goal

pub returns : goal.returns
returns c = record { law = others-stay }
