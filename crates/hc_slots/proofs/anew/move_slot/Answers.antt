use Rattle.std.proofs.Common.{◌≡◌, ℕ, ◌+◌, true, false, Some, ap, sym, ◌∙◌, subst}
use Rattle.hc_value.specs.Prop.{kind_of}
use Rattle.hc_value.specs.declared.prop.Held.{Held}
use Rattle.hc_heap.specs.Writes.{Slot}
use Rattle.hc_heap.specs.Lawful.{IsFormOf}
use Rattle.hc_heap.specs.Readings.{store_in}
use Rattle.hc_heap.specs.States.{HeapState, View, with_write}
use Rattle.hc_descs.specs.Entries.{detail_at}
use Rattle.hc_slots.specs.Anew.{IsMovedAt, differ, is_wide}
use Rattle.hc_slots.specs.Cases.{some-and}
use Rattle.hc_slots.specs.Meaning.{held_in, slot_word}
use Rattle.hc_slots.proofs.Rewritten.{kept-slot, moved-slot}
use Rattle.hc_slots.proofs.anew.move_slot.Goals as goal

pub returns-then-not-differ-clause-moved : goal.returns-then-not-differ-clause-moved
returns-then-not-differ-clause-moved g c =
    let v = c.args.h.now.view in
    let o = c.args.object in
    let m = c.args.map in
    let x = c.args.other in
    let k = c.args.k in
    let first : c.entry_of.new.h.view ≡ v = ap (λ (s : HeapState g.row.P.Denot). s.view) c.entry_of.ensures.new in
    let second : c.entry_of-2.new.h.view ≡ v = ap (λ (s : HeapState g.row.P.Denot). s.view) c.entry_of-2.ensures.new ∙ first in
    let upto : detail_at v.trail x k ≡ Some c.entry_of-2.result.1 = subst (λ (y : View). detail_at y.trail x k ≡ Some c.entry_of-2.result.1) first c.entry_of-2.ensures.detail in
    let alike : differ (is_wide c.entry_of.result.1.rep) (is_wide c.entry_of-2.result.1.rep) ≡ false = sym c.differ.ensures ∙ c.if-not-differ.true in
    subst (λ (y : View). IsMovedAt v y o m x k) (sym second)
    (kept-slot v o m x k c.entry_of.result.0 c.entry_of.result.1 c.entry_of-2.result.1 c.entry_of.ensures.key c.requires.key c.entry_of.ensures.detail upto c.stands.ensures.heap alike c.requires.holds)

pub returns-clause-moved : goal.returns-clause-moved
returns-clause-moved g c =
    let v = c.args.h.now.view in
    let o = c.args.object in
    let m = c.args.map in
    let x = c.args.other in
    let k = c.args.k in
    let key = c.entry_of.result.0 in
    let d = c.entry_of.result.1 in
    let e = c.entry_of-2.result.1 in
    let word = c.held_word.result in
    let first : c.entry_of.new.h.view ≡ v = ap (λ (s : HeapState g.row.P.Denot). s.view) c.entry_of.ensures.new in
    let second : c.entry_of-2.new.h.view ≡ v = ap (λ (s : HeapState g.row.P.Denot). s.view) c.entry_of-2.ensures.new ∙ first in
    let third : c.word_of_slot-word.new.h.view ≡ v = ap (λ (s : HeapState g.row.P.Denot). s.view) c.word_of_slot-word.ensures.new ∙ second in
    let upto : detail_at v.trail x k ≡ Some e = subst (λ (y : View). detail_at y.trail x k ≡ Some e) first c.entry_of-2.ensures.detail in
    let changed : differ (is_wide d.rep) (is_wide e.rep) ≡ true = sym c.differ.ensures ∙ c.if-not-differ.false in
    let had : c.word_of_slot-word.result ≡ slot_word v.trail o k = c.word_of_slot-word.ensures.value ∙ ap (λ (y : View). slot_word y.trail o k) second in
    let held : c.held_of-held.result ≡ held_in key.kind d.rep (slot_word v.trail o k) = c.held_of-held.ensures.value ∙ ap (λ (w : ℕ). held_in key.kind d.rep w) had in
    let at = some-and (store_in c.word_of_slot-word.new.h.view.trail o).first (λ (f : ℕ). c.put_slot.new.h.view ≡ with_write c.word_of_slot-word.new.h.view (Slot (f + k) word)) c.put_slot.ensures.view in
    moved-slot v o m x k key d e c.entry_of.ensures.key c.requires.key c.entry_of.ensures.detail upto c.put_slot.new.h.view at.0 word c.put_slot.ensures.heap
    (ap (λ (y : View). (store_in y.trail o).first) (sym third) ∙ at.1.0)
    (at.1.1 ∙ ap (λ (y : View). with_write y (Slot (at.0 + k) word)) third)
    changed
    (subst (λ (y : Held). IsFormOf (kind_of y) e.rep word) held c.held_word.ensures.form)
    (subst (λ (y : Held). held_in (kind_of y) e.rep word ≡ y) held c.held_word.ensures.holds)
