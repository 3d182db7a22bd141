use Rattle.std.proofs.Common.{◌≡◌, ◌+◌, ◌∙◌, Some, sym, arith}
use Rattle.hc_layout.specs.declared.shape.Region.TheVariants.{Entries}
use Rattle.hc_heap.specs.Readings.{base_in}
use Rattle.hc_descs.specs.Entries.{IsEntryAt}
use Rattle.hc_descs.proofs.Having.{base-there, entry-is, entry-used}
use Rattle.hc_descs.proofs.reading.entry_at.Goals as goal

pub unwrap-base-requires : goal.unwrap-base-requires
unwrap-base-requires g c = base-there c.args.h.now.view c.args.map c.args.k c.base.result c.gates_are_open.ensures.law c.stands.ensures.heap c.requires.entry c.base.ensures.value

pub returns-clause-entry : goal.returns-clause-entry
returns-clause-entry g c =
    let v = c.args.h.now.view in
    let is : base_in v.trail c.args.map ≡ Some c.unwrap-base.result = sym c.base.ensures.value ∙ c.unwrap-base.ensures in
    entry-is v c.args.map c.args.k c.unwrap-base.result c.gates_are_open.ensures.law c.stands.ensures.heap c.requires.entry is

pub overflow_add-result : goal.overflow_add-result
overflow_add-result g c =
    let v = c.args.h.now.view in
    let is : base_in v.trail c.args.map ≡ Some c.unwrap-base.result = sym c.base.ensures.value ∙ c.unwrap-base.ensures in
    let at : IsEntryAt v.trail c.args.map c.args.k (c.unwrap-base.result + c.args.k) = entry-is v c.args.map c.args.k c.unwrap-base.result c.gates_are_open.ensures.law c.stands.ensures.heap c.requires.entry is in
    let used = entry-used v (c.unwrap-base.result + c.args.k) c.unused_says_nothing.ensures.law c.stands.ensures.heap at.written in
    let most = c.stands.ensures.heap.most Entries in
    let shape = c.stands.ensures.heap.shape in
    omega arith
