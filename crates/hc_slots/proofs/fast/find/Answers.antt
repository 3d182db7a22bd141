use Rattle.std.proofs.Common.{◌≡◌, ◌+◌, None, ap, sym, ◌∙◌, subst, length, arith}
use Rattle.std.specs.Prelude.{IfSome}
use Rattle.hc_heap.specs.Readings.{map_in}
use Rattle.hc_heap.specs.States.{HeapState, one_load}
use Rattle.hc_board.specs.States.{WriterState}
use Rattle.hc_heap.specs.Writes.{Trail}
use Rattle.hc_descs.specs.Entries.{IsFirstNamed, LacksName, count_of}
use Rattle.hc_slots.specs.Meaning.{object_shown}
use Rattle.hc_slots.proofs.Fetching.{place-shown, length-shown}
use Rattle.hc_slots.proofs.fast.find.Goals as goal

pub returns-clause-place : goal.returns-clause-place
returns-clause-place g c =
    let t = c.args.h.now.view.trail in
    let same : c.map_of-map.new.h.view.trail ≡ t = ap (λ (s : HeapState g.row.P.Denot). s.view.trail) c.map_of-map.ensures.new in
    place-shown t c.args.o c.map_of-map.result c.args.name c.requires.fast c.map_of-map.ensures.map c.find.result
    (subst (λ (x : Trail). IfSome c.find.result (λ i. IsFirstNamed x c.map_of-map.result c.args.name i)) same c.find.ensures.found)
    (subst (λ (x : Trail). c.find.result ≡ None → LacksName x c.map_of-map.result (count_of x c.map_of-map.result) c.args.name) same c.find.ensures.absent)

pub returns-clause-loads : goal.returns-clause-loads
returns-clause-loads g c =
    let t = c.args.h.now.view.trail in
    let same : c.map_of-map.new.h.view.trail ≡ t = ap (λ (s : HeapState g.row.P.Denot). s.view.trail) c.map_of-map.ensures.new in
    let count : count_of c.map_of-map.new.h.view.trail c.map_of-map.result ≡ length (object_shown t c.args.o None (map_in t c.args.o)).props =
    ap (λ (x : Trail). count_of x c.map_of-map.result) same ∙ sym (length-shown t c.args.o c.map_of-map.result c.map_of-map.ensures.map) in
    let desk : c.map_of-map.new.h.desk ≡ one_load c.args.h.now.desk = ap (λ (s : HeapState g.row.P.Denot). s.desk) c.map_of-map.ensures.new in
    let one : c.map_of-map.new.h.desk.loads ≡ c.args.h.now.desk.loads + 1 = ap (λ (s : HeapState g.row.P.Denot). s.desk.loads) c.map_of-map.ensures.new in
    record {
      is = c.find.ensures.loads.is ∙ ap (λ (d : WriterState). let x : WriterState = record d { loads = c.find.new.h.desk.loads } in x) desk;
      least = omega (arith, one, c.find.ensures.loads.least);
      most = omega (arith, one, count, c.find.ensures.loads.most);
    }
