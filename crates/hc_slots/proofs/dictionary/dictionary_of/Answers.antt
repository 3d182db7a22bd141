use Rattle.std.proofs.Common.{◌≡◌, ◌∙◌, Some, ap, sym, subst}
use Rattle.hc_heap.specs.Readings.{map_in}
use Rattle.hc_heap.specs.States.{View, HeapState}
use Rattle.hc_descs.specs.Entries.{count_of}
use Rattle.hc_slots.proofs.Fetching.{length-shown}
use Rattle.hc_slots.proofs.dictionary.dictionary_of.Goals as goal

pub table_of-requires-clause-count : goal.table_of-requires-clause-count
table_of-requires-clause-count g c =
    let o = c.args.object in
    let m = c.map_of-map.result in
    let first : c.map_of-map.new.h.view ≡ c.args.h.now.view = ap (λ (s : HeapState g.row.P.Denot). s.view) c.map_of-map.ensures.new in
    let second : c.proto-proto.new.h.view ≡ c.map_of-map.new.h.view = ap (λ (s : HeapState g.row.P.Denot). s.view) c.proto-proto.ensures.same in
    let third : c.extensible-extensible.new.h.view ≡ c.proto-proto.new.h.view = ap (λ (s : HeapState g.row.P.Denot). s.view) c.extensible-extensible.ensures.same in
    let last : c.len-n.new.h.view ≡ c.extensible-extensible.new.h.view = ap (λ (s : HeapState g.row.P.Denot). s.view) c.len-n.ensures.same in
    let is : map_in c.extensible-extensible.new.h.view.trail o ≡ Some m = subst (λ (w : View). map_in w.trail o ≡ Some m) (sym (third ∙ second ∙ first)) c.map_of-map.ensures.map in
    c.len-n.ensures.len ∙ length-shown c.extensible-extensible.new.h.view.trail o m is ∙ ap (λ (w : View). count_of w.trail m) (sym last)
