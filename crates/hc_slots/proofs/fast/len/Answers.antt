use Rattle.std.proofs.Common.{◌≡◌, Some, ap, sym, ◌∙◌}
use Rattle.hc_heap.specs.Readings.{gate_in}
use Rattle.hc_heap.specs.States.{HeapState}
use Rattle.hc_heap.specs.Writes.{Trail}
use Rattle.hc_descs.specs.Entries.{entries_in}
use Rattle.hc_slots.proofs.Fetching.{length-shown}
use Rattle.hc_slots.proofs.fast.len.Goals as goal

pub returns-clause-len : goal.returns-clause-len
returns-clause-len g c =
    let t = c.args.h.now.view.trail in
    let same : c.map_of-map.new.h.view.trail ≡ t = ap (λ (s : HeapState g.row.P.Denot). s.view.trail) c.map_of-map.ensures.new in
    let is : Some c.unwrap.result ≡ gate_in t c.map_of-map.result = sym c.unwrap.ensures ∙ c.gate.ensures.value ∙ ap (λ (x : Trail). gate_in x c.map_of-map.result) same in
    ap entries_in is ∙ sym (length-shown t c.args.o c.map_of-map.result c.map_of-map.ensures.map)
