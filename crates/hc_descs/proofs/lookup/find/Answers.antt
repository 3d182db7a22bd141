use Rattle.std.proofs.Common.{◌≡◌, ◌<◌, ◌+◌, Option, Some, None, IsSome, sym, subst, arith}
use Rattle.hc_layout.specs.declared.shape.Region.TheVariants.{Entries}
use Rattle.hc_layout.specs.declared.words.GateWord.{GateWord}
use Rattle.hc_heap.specs.Readings.{gate_in, base_in, entry_key_in}
use Rattle.hc_heap.specs.States.{HeapState}
use Rattle.hc_descs.specs.Entries.{entries_in}
use Rattle.hc_descs.proofs.Having.{entries-open, none-have, key-there, entry-used}
use Rattle.hc_descs.proofs.lookup.find.Goals as goal

pub returns-in_default-clause-absent : goal.returns-in_default-clause-absent
returns-in_default-clause-absent g c =
    let v = c.args.h.now.view in
    let is : gate_in v.trail c.args.map ≡ Some c.unwrap-gate.result = cc in
    let have = entries-open v c.args.map c.unwrap-gate.result c.gates_are_open.ensures.law c.stands.ensures.heap is in
    let none : base_in v.trail c.args.map ≡ None = cc in
    λ _ k lt. absurd (none-have v.trail (base_in v.trail c.args.map) c.unwrap-gate.result.entries k have none (subst (λ (o : Option GateWord). k < entries_in o) is lt))

pub overflow_add-base : goal.overflow_add-base
overflow_add-base g c =
    let v = c.args.h.now.view in
    let is : gate_in v.trail c.args.map ≡ Some c.unwrap-gate.result = cc in
    let have = entries-open v c.args.map c.unwrap-gate.result c.gates_are_open.ensures.law c.stands.ensures.heap is in
    let base : base_in v.trail c.args.map ≡ Some c.in-Some.base = cc in
    let there = key-there v.trail (base_in v.trail c.args.map) c.unwrap-gate.result.entries c.in-Some.base c.loop-i.i have base c.loop-i-test.true in
    let used = entry-used v (c.in-Some.base + c.loop-i.i) c.unused_says_nothing.ensures.law c.stands.ensures.heap there in
    let most = c.stands.ensures.heap.most Entries in
    let shape = c.stands.ensures.heap.shape in
    omega arith

pub key_of-requires : goal.key_of-requires
key_of-requires g c =
    let v = c.args.h.now.view in
    let is : gate_in v.trail c.args.map ≡ Some c.unwrap-gate.result = cc in
    let have = entries-open v c.args.map c.unwrap-gate.result c.gates_are_open.ensures.law c.stands.ensures.heap is in
    let base : base_in v.trail c.args.map ≡ Some c.in-Some.base = cc in
    let there = key-there v.trail (base_in v.trail c.args.map) c.unwrap-gate.result.entries c.in-Some.base c.loop-i.i have base c.loop-i-test.true in
    record { written = subst (λ (s : HeapState g.row.P.Denot). IsSome (entry_key_in s.view.trail (c.in-Some.base + c.loop-i.i))) (sym c.loop-i.invariant.same) there }
