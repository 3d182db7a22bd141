use Rattle.std.proofs.Common.{◌≡◌, ℕ, ◌<◌, Some, ap, sym, ◌∙◌, subst}
use Rattle.hc_layout.specs.declared.shape.Shape.{Shape}
use Rattle.hc_heap.specs.Writes.{Trail}
use Rattle.hc_heap.specs.Readings.{gate_in, array_in}
use Rattle.hc_heap.specs.Lawful.{Lawful}
use Rattle.hc_heap.specs.Kept.{Adds}
use Rattle.hc_heap.specs.States.{View, HeapState, one_load}
use Rattle.hc_descs.specs.Entries.{entries_in, key_at}
use Rattle.hc_descs.specs.Copies.{own_array, FillsArray, HasEntriesBut, field_but}
use Rattle.hc_descs.specs.Filling.{FillsEntries, IsFilled}
use Rattle.hc_descs.proofs.Having.{entries-few, field-used}
use Rattle.hc_descs.proofs.Begun.{begun, entries-begun, free-begun}
use Rattle.hc_descs.proofs.Filled.{has-filled, gate-same, array-same}
use Rattle.hc_descs.proofs.Given.{given, given-writes, given-but}
use Rattle.hc_descs.proofs.copies.copy_but.Goals as goal

pub cap-capacity-requires-clause-most : goal.cap-capacity-requires-clause-most
cap-capacity-requires-clause-most g c =
    let v = c.args.h.now.view in
    let is : gate_in v.trail c.args.map ≡ Some c.unwrap-n.result = sym c.gate.ensures.value ∙ c.unwrap-n.ensures in
    entries-few v c.args.map c.unwrap-n.result c.gates_are_open.ensures.law c.stands.ensures.heap is

pub copy_entries_but-requires-clause-entries : goal.copy_entries_but-requires-clause-entries
copy_entries_but-requires-clause-entries g c =
    let v = c.args.h.now.view in
    let start = begun c.args.h.now c.gate.new.self c.fresh-base.new.self (one_load c.args.h.now.desk) c.fresh-base.result c.cap-capacity.result c.gate.ensures.new c.fresh-base.ensures.new c.fresh-base.ensures.first in
    let is : gate_in v.trail c.args.map ≡ Some c.unwrap-n.result = sym c.gate.ensures.value ∙ c.unwrap-n.ensures in
    entries-begun v c.fresh-base.new.self.view c.fresh-base.result c.args.map c.unwrap-n.result start c.gates_are_open.ensures.law c.stands.ensures.heap is

pub copy_entries_but-requires-clause-free : goal.copy_entries_but-requires-clause-free
copy_entries_but-requires-clause-free g c =
    let start = begun c.args.h.now c.gate.new.self c.fresh-base.new.self (one_load c.args.h.now.desk) c.fresh-base.result c.cap-capacity.result c.gate.ensures.new c.fresh-base.ensures.new c.fresh-base.ensures.first in
    free-begun c.args.h.now.view c.fresh-base.new.self.view c.fresh-base.result start c.unused_says_nothing.ensures.law c.stands.ensures.heap

pub copy_entries_but-requires-clause-field : goal.copy_entries_but-requires-clause-field
copy_entries_but-requires-clause-field g c =
    let start = begun c.args.h.now c.gate.new.self c.fresh-base.new.self (one_load c.args.h.now.desk) c.fresh-base.result c.cap-capacity.result c.gate.ensures.new c.fresh-base.ensures.new c.fresh-base.ensures.first in
    subst (λ (s : Shape). c.args.field < s.fields) (sym start.shape) (field-used c.args.h.now.view c.args.field c.unused_says_nothing.ensures.law c.stands.ensures.heap c.requires.field)

pub give_array-requires-clause-closed : goal.give_array-requires-clause-closed
give_array-requires-clause-closed g c =
    let m = c.args.child in
    let start = begun c.args.h.now c.gate.new.self c.fresh-base.new.self (one_load c.args.h.now.desk) c.fresh-base.result c.cap-capacity.result c.gate.ensures.new c.fresh-base.ensures.new c.fresh-base.ensures.first in
    gate-same c.fresh-base.new.self.view.trail c.copy_entries_but.new.h.view.trail c.fresh-base.result m c.copy_entries_but.ensures.filled.writes ∙ (ap (λ (t : Trail). gate_in t m) start.trail ∙ c.requires.closed)

pub give_array-requires-clause-bare : goal.give_array-requires-clause-bare
give_array-requires-clause-bare g c =
    let m = c.args.child in
    let start = begun c.args.h.now c.gate.new.self c.fresh-base.new.self (one_load c.args.h.now.desk) c.fresh-base.result c.cap-capacity.result c.gate.ensures.new c.fresh-base.ensures.new c.fresh-base.ensures.first in
    array-same c.fresh-base.new.self.view.trail c.copy_entries_but.new.h.view.trail c.fresh-base.result m c.copy_entries_but.ensures.filled.writes ∙ (ap (λ (t : Trail). array_in t m) start.trail ∙ c.requires.bare)

pub returns-clause-writes : goal.returns-clause-writes
returns-clause-writes g c =
    let v = c.args.h.now.view in
    let first = c.fresh-base.result in
    let n = c.unwrap-n.result.entries in
    let filled = c.copy_entries_but.new.h.view.trail in
    let start = begun c.args.h.now c.gate.new.self c.fresh-base.new.self (one_load c.args.h.now.desk) c.fresh-base.result c.cap-capacity.result c.gate.ensures.new c.fresh-base.ensures.new c.fresh-base.ensures.first in
    let array = own_array c.cap-capacity.result in
    let end : c.give_array.new.h.view.trail ≡ given filled c.args.child first array = ap (λ (x : View). x.trail) c.give_array.ensures.view in
    let writes : Adds (FillsEntries first) v.trail filled =
    subst (λ (t : Trail). Adds (FillsEntries first) t filled) start.trail c.copy_entries_but.ensures.filled.writes in
    subst (λ (t : Trail). Adds (FillsArray c.args.child v.used.entries) v.trail t) (sym end)
    (subst (λ (e : ℕ). Adds (FillsArray c.args.child e) v.trail (given filled c.args.child first array)) start.first (given-writes v.trail filled c.args.child first array writes))

pub returns-clause-all : goal.returns-clause-all
returns-clause-all g c =
    let v = c.args.h.now.view in
    let first = c.fresh-base.result in
    let n = c.unwrap-n.result.entries in
    let m = c.args.map in
    let filled = c.copy_entries_but.new.h.view.trail in
    let is : gate_in v.trail m ≡ Some c.unwrap-n.result = sym c.gate.ensures.value ∙ c.unwrap-n.ensures in
    let start = begun c.args.h.now c.gate.new.self c.fresh-base.new.self (one_load c.args.h.now.desk) c.fresh-base.result c.cap-capacity.result c.gate.ensures.new c.fresh-base.ensures.new c.fresh-base.ensures.first in
    let array = own_array c.cap-capacity.result in
    let end : c.give_array.new.h.view.trail ≡ given filled c.args.child first array = ap (λ (x : View). x.trail) c.give_array.ensures.view in
    let done : IsFilled v.trail filled first n (key_at v.trail m) (field_but v.trail m c.args.place c.args.field) =
    subst (λ (t : Trail). IsFilled t filled first n (key_at t m) (field_but t m c.args.place c.args.field)) start.trail c.copy_entries_but.ensures.filled in
    let has = has-filled v.trail filled first n (key_at v.trail m) (field_but v.trail m c.args.place c.args.field) done in
    let lawful = subst (λ (t : Trail). Lawful c.give_array.new.h.view.shape t) end c.give_array.ensures.heap.lawful in
    let count : entries_in (gate_in v.trail m) ≡ n = ap entries_in is in
    subst (λ (t : Trail). HasEntriesBut t c.args.child m (entries_in (gate_in v.trail m)) c.args.place c.args.field) (sym end)
    (subst (λ (k : ℕ). HasEntriesBut (given filled c.args.child first array) c.args.child m k c.args.place c.args.field) (sym count)
    (given-but c.give_array.new.h.view.shape v.trail filled c.args.child first m c.args.place c.args.field c.unwrap-n.result array c.entries_are_kept.ensures.law done.writes lawful is has))

pub returns-clause-went : goal.returns-clause-went
returns-clause-went g c =
    let on = g.met.P.Pace.goes_on in
    let h = c.args.h.now in
    let begin : g.P.Pace.went h.pace h.desk.trail c.fresh-base.new.self.desk.trail c.fresh-base.new.self.pace =
    subst (λ (s : HeapState g.row.P.Denot). g.P.Pace.went h.pace h.desk.trail s.desk.trail s.pace) (sym c.fresh-base.ensures.new) c.gate.ensures.went in
    on h.pace c.fresh-base.new.self.pace c.give_array.new.h.pace h.desk.trail c.fresh-base.new.self.desk.trail c.give_array.new.h.desk.trail begin
    (on c.fresh-base.new.self.pace c.copy_entries_but.new.h.pace c.give_array.new.h.pace c.fresh-base.new.self.desk.trail c.copy_entries_but.new.h.desk.trail c.give_array.new.h.desk.trail c.copy_entries_but.ensures.went c.give_array.ensures.went)
