use Rattle.hc_modes.proofs.Celled.{have-ends, proto-told}
use Rattle.hc_modes.proofs.laws.chains_are_told.Goals as goal

pub returns : goal.returns
returns g c = record {
  protos = λ s o sound. proto-told c.unused_says_nothing.ensures.law s.heap.view s.kept s.of_null sound o;
  ends = λ s sound. have-ends c.unused_says_nothing.ensures.law s.heap.view s.kept s.of_null sound;
}
