use Rattle.hc_script.proofs.Asking.{one_script}
use Rattle.hc_script.proofs.laws.words_ask_for_one_script.Goals as goal

pub returns : goal.returns
returns c = one_script
