use Rattle.std.proofs.Common.{◌≡◌, None, Some}
use Rattle.hc_modes.proofs.Keeping.{came-keeps}
use Rattle.hc_modes.proofs.laws.fields_stay_honest.Goals as goal

pub returns : goal.returns
returns g c = record {
  law = λ a b did sound came. came-keeps g.P.Pace.went c.constants_stay_on.ensures.law a b did sound.heap.lawful came;
  none = λ o m k f d datum admits. let n : None ≡ Some m = datum.has in let e : ⊥ = cc in absurd e;
}
