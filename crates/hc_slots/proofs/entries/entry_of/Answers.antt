use Rattle.std.proofs.Common.{◌≡◌, ℕ, ◌+◌, ◌<◌, ◌∙◌, ap, sym, arith}
use Rattle.hc_layout.specs.declared.shape.Region.TheVariants.{Entries}
use Rattle.hc_heap.specs.Writes.{Trail}
use Rattle.hc_heap.specs.Readings.{entry_key_in, reference_in, detail_in}
use Rattle.hc_heap.specs.States.{HeapState}
use Rattle.hc_slots.specs.Entries.{EntryIs, entry-is}
use Rattle.hc_slots.proofs.Reading.{entry-used, base-same, field-same, some-is_some}
use Rattle.hc_slots.proofs.entries.entry_of.Goals as goal

pub unwrap-base-requires : goal.unwrap-base-requires
unwrap-base-requires g c =
    let v = c.args.h.now.view in
    let entry : EntryIs v.trail c.args.map c.args.k = entry-is c.gates_are_open.ensures.law v c.args.map c.args.k c.stands.ensures.heap c.requires.entry in
    some-is_some c.base.result entry.base (c.base.ensures.value ∙ entry.is_base)

pub overflow_add-base : goal.overflow_add-base
overflow_add-base g c =
    let v = c.args.h.now.view in
    let entry : EntryIs v.trail c.args.map c.args.k = entry-is c.gates_are_open.ensures.law v c.args.map c.args.k c.stands.ensures.heap c.requires.entry in
    let same : entry.base ≡ c.unwrap-base.result = base-same v.trail c.args.map c.args.k c.unwrap-base.result entry (sym c.base.ensures.value ∙ c.unwrap-base.ensures) in
    let used : entry.base + c.args.k < v.used.entries = entry-used c.unused_says_nothing.ensures.law v (entry.base + c.args.k) entry.key c.stands.ensures.heap entry.is_key in
    let most = c.stands.ensures.heap.most Entries in
    let shape = c.stands.ensures.heap.shape in
    omega (arith, same, used)

pub unwrap-key-requires : goal.unwrap-key-requires
unwrap-key-requires g c =
    let v = c.args.h.now.view in
    let entry : EntryIs v.trail c.args.map c.args.k = entry-is c.gates_are_open.ensures.law v c.args.map c.args.k c.stands.ensures.heap c.requires.entry in
    let same : entry.base ≡ c.unwrap-base.result = base-same v.trail c.args.map c.args.k c.unwrap-base.result entry (sym c.base.ensures.value ∙ c.unwrap-base.ensures) in
    let first : c.base.new.self.view.trail ≡ v.trail = ap (λ (s : HeapState g.row.P.Denot). s.view.trail) c.base.ensures.new in
    some-is_some c.entry_key.result entry.key
    (c.entry_key.ensures.value ∙ ap (λ (t : Trail). entry_key_in t (c.unwrap-base.result + c.args.k)) first ∙ ap (λ (x : ℕ). entry_key_in v.trail (x + c.args.k)) (sym same) ∙ entry.is_key)

pub overflow_add-base-2 : goal.overflow_add-base-2
overflow_add-base-2 g c =
    let v = c.args.h.now.view in
    let entry : EntryIs v.trail c.args.map c.args.k = entry-is c.gates_are_open.ensures.law v c.args.map c.args.k c.stands.ensures.heap c.requires.entry in
    let same : entry.base ≡ c.unwrap-base.result = base-same v.trail c.args.map c.args.k c.unwrap-base.result entry (sym c.base.ensures.value ∙ c.unwrap-base.ensures) in
    let used : entry.base + c.args.k < v.used.entries = entry-used c.unused_says_nothing.ensures.law v (entry.base + c.args.k) entry.key c.stands.ensures.heap entry.is_key in
    let most = c.stands.ensures.heap.most Entries in
    let shape = c.stands.ensures.heap.shape in
    omega (arith, same, used)

pub unwrap-field-requires : goal.unwrap-field-requires
unwrap-field-requires g c =
    let v = c.args.h.now.view in
    let entry : EntryIs v.trail c.args.map c.args.k = entry-is c.gates_are_open.ensures.law v c.args.map c.args.k c.stands.ensures.heap c.requires.entry in
    let same : entry.base ≡ c.unwrap-base.result = base-same v.trail c.args.map c.args.k c.unwrap-base.result entry (sym c.base.ensures.value ∙ c.unwrap-base.ensures) in
    let first : c.entry_key.new.self.view.trail ≡ v.trail = ap (λ (s : HeapState g.row.P.Denot). s.view.trail) c.entry_key.ensures.new ∙ ap (λ (s : HeapState g.row.P.Denot). s.view.trail) c.base.ensures.new in
    some-is_some c.reference.result entry.field
    (c.reference.ensures.value ∙ ap (λ (t : Trail). reference_in t (c.unwrap-base.result + c.args.k)) first ∙ ap (λ (x : ℕ). reference_in v.trail (x + c.args.k)) (sym same) ∙ entry.is_field)

pub unwrap-requires : goal.unwrap-requires
unwrap-requires g c =
    let v = c.args.h.now.view in
    let entry : EntryIs v.trail c.args.map c.args.k = entry-is c.gates_are_open.ensures.law v c.args.map c.args.k c.stands.ensures.heap c.requires.entry in
    let same : entry.base ≡ c.unwrap-base.result = base-same v.trail c.args.map c.args.k c.unwrap-base.result entry (sym c.base.ensures.value ∙ c.unwrap-base.ensures) in
    let first : c.entry_key.new.self.view.trail ≡ v.trail = ap (λ (s : HeapState g.row.P.Denot). s.view.trail) c.entry_key.ensures.new ∙ ap (λ (s : HeapState g.row.P.Denot). s.view.trail) c.base.ensures.new in
    let second : c.reference.new.self.view.trail ≡ v.trail = ap (λ (s : HeapState g.row.P.Denot). s.view.trail) c.reference.ensures.new ∙ first in
    let field : entry.field ≡ c.unwrap-field.result = field-same v.trail c.args.map c.args.k c.unwrap-base.result c.unwrap-field.result entry same
    (ap (λ (t : Trail). reference_in t (c.unwrap-base.result + c.args.k)) (sym first) ∙ sym c.reference.ensures.value ∙ c.unwrap-field.ensures) in
    some-is_some c.detail.result entry.detail
    (c.detail.ensures.value ∙ ap (λ (t : Trail). detail_in t c.unwrap-field.result) second ∙ ap (λ (x : ℕ). detail_in v.trail x) (sym field) ∙ entry.admits)
