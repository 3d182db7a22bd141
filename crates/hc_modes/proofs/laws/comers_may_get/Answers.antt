use Rattle.hc_modes.proofs.Known.{come-gets}
use Rattle.hc_modes.proofs.laws.comers_may_get.Goals as goal

pub returns : goal.returns
returns c = record {
  law = λ v kept null o child name value sound there may. come-gets c.gates_are_open.ensures.law c.live_is_child.ensures.law v kept null sound o child name value there may;
}
