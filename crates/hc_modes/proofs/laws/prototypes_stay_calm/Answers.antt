use Rattle.hc_modes.proofs.Calm.{came-calm, lone}
use Rattle.hc_modes.proofs.laws.prototypes_stay_calm.Goals as goal

pub returns : goal.returns
returns g c = record {
  law = λ a b did sound_a sound_b came calm.
      came-calm g.P.Pace.went a b did (lone c.unused_says_nothing.ensures.law a.heap.view a.kept a.of_null sound_a) (lone c.unused_says_nothing.ensures.law b.heap.view b.kept b.of_null sound_b) came calm;
}
