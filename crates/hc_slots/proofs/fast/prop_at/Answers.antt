use Rattle.std.proofs.Common.{◌≡◌, ◌<◌, ap, sym, subst}
use Rattle.std.specs.Prelude.{IsSomeAnd}
use Rattle.hc_heap.specs.Readings.{gate_in, store_in}
use Rattle.hc_heap.specs.States.{HeapState}
use Rattle.hc_heap.specs.Writes.{Trail}
use Rattle.hc_descs.specs.Entries.{count_of}
use Rattle.hc_slots.specs.Meaning.{prop_in}
use Rattle.hc_slots.proofs.Fetching.{length-shown, entry-below, slot-below, prop-shown}
use Rattle.hc_slots.proofs.fast.prop_at.Goals as goal

pub prop_of_entry-requires : goal.prop_of_entry-requires
prop_of_entry-requires g c =
    let t = c.args.h.now.view.trail in
    let m = c.map_of-map.result in
    let same : c.map_of-map.new.h.view.trail ≡ t = ap (λ (s : HeapState g.row.P.Denot). s.view.trail) c.map_of-map.ensures.new in
    let lt : c.args.i < count_of t m = subst (λ n. c.args.i < n) (length-shown t c.args.o m c.map_of-map.ensures.map) c.requires.place in
    record {
      entry = subst (λ (x : Trail). IsSomeAnd (gate_in x m) (λ w. c.args.i < w.entries)) (sym same) (entry-below t c.args.o m c.args.i c.requires.fast c.map_of-map.ensures.map lt);
      slot = subst (λ (x : Trail). c.args.i < (store_in x c.args.o).capacity) (sym same) (slot-below t c.args.o m c.args.i c.requires.fast c.map_of-map.ensures.map lt);
    }

pub returns-clause-prop : goal.returns-clause-prop
returns-clause-prop g c =
    let t = c.args.h.now.view.trail in
    let m = c.map_of-map.result in
    let same : c.map_of-map.new.h.view.trail ≡ t = ap (λ (s : HeapState g.row.P.Denot). s.view.trail) c.map_of-map.ensures.new in
    let lt : c.args.i < count_of t m = subst (λ n. c.args.i < n) (length-shown t c.args.o m c.map_of-map.ensures.map) c.requires.place in
    let prop : c.prop_of_entry.result ≡ prop_in t c.args.o m c.args.i = subst (λ (x : Trail). c.prop_of_entry.result ≡ prop_in x c.args.o m c.args.i) same c.prop_of_entry.ensures.value in
    prop-shown t c.args.o m c.args.i c.prop_of_entry.result c.map_of-map.ensures.map lt prop
