use Rattle.hc_tree.proofs.Keeping.{keeps}
use Rattle.hc_tree.proofs.laws.maps_are_kept.Goals as goal

pub returns : goal.returns
returns c = record {
  law = λ s old new h goes. keeps (record {
    written = c.written_is_kept.ensures.law;
    entries = c.entries_are_kept.ensures.law;
    details = c.details_rise.ensures.law;
    gates = c.gates_are_open.ensures.law;
  }) s old new h goes;
}
