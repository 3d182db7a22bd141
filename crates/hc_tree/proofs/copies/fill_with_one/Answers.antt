use Rattle.std.proofs.Common.{◌≡◌, ℕ, ◌+◌, ap, sym, ◌∙◌, subst, arith}
use Rattle.hc_heap.specs.Writes.{Trail}
use Rattle.hc_heap.specs.Readings.{gate_in}
use Rattle.hc_heap.specs.Kept.{Adds}
use Rattle.hc_heap.specs.States.{View}
use Rattle.hc_descs.specs.Entries.{AreFree, entries_in}
use Rattle.hc_descs.specs.Copies.{FillsArray, HasOwnArray, IsEntry}
use Rattle.hc_tree.specs.Copying.{with_field, MakesFields}
use Rattle.hc_tree.proofs.Arrays.{own-has}
use Rattle.hc_tree.proofs.Filled.{count-is, both-fill, ends-with}
use Rattle.hc_tree.proofs.Made.{adds-field}
use Rattle.hc_tree.proofs.copies.fill_with_one.Goals as goal

pub returns-clause-last : goal.returns-clause-last
returns-clause-last g c =
    let t = c.args.h.now.view.trail in
    let f = c.new_field-field.result in
    let end = c.copy.new.h.view.trail in
    let e = c.new_field-field.new.h.view.used.entries in
    let is : c.new_field-field.new.h.view.trail ≡ with_field t f c.args.child c.args.detail = ap (λ (v : View). v.trail) c.new_field-field.ensures.view in
    let count : entries_in (gate_in c.new_field-field.new.h.view.trail c.args.map) ≡ c.args.n = ap (λ (x : Trail). entries_in (gate_in x c.args.map)) is ∙ count-is (gate_in t c.args.map) c.args.n c.requires.open in
    ends-with t end c.args.child e c.args.n f c.args.key c.args.detail
    (subst (λ (x : Trail). Adds (FillsArray c.args.child e) x end) is c.copy.ensures.writes)
    (subst (λ (k : ℕ). IsEntry end c.args.child k c.args.key f) count c.copy.ensures.last)

pub returns-clause-array : goal.returns-clause-array
returns-clause-array g c =
    let t = c.args.h.now.view.trail in
    let f = c.new_field-field.result in
    let end = c.copy.new.h.view.trail in
    let e = c.new_field-field.new.h.view.used.entries in
    let is : c.new_field-field.new.h.view.trail ≡ with_field t f c.args.child c.args.detail = ap (λ (v : View). v.trail) c.new_field-field.ensures.view in
    let count : entries_in (gate_in c.new_field-field.new.h.view.trail c.args.map) ≡ c.args.n = ap (λ (x : Trail). entries_in (gate_in x c.args.map)) is ∙ count-is (gate_in t c.args.map) c.args.n c.requires.open in
    own-has end c.args.child (c.args.n + 1) e (omega arith)
    (subst (λ (k : ℕ). HasOwnArray end c.args.child (k + 1) e) count c.copy.ensures.array)
    (subst (λ (k : ℕ). AreFree end (e + (k + 1))) count c.copy.ensures.spare)

pub returns-clause-writes : goal.returns-clause-writes
returns-clause-writes g c =
    let v = c.args.h.now.view in
    let f = c.new_field-field.result in
    let mid = c.new_field-field.new.h.view in
    let end = c.copy.new.h.view.trail in
    let is : mid.trail ≡ with_field v.trail f c.args.child c.args.detail = ap (λ (w : View). w.trail) c.new_field-field.ensures.view in
    let entries : mid.used.entries ≡ v.used.entries = ap (λ (w : View). w.used.entries) c.new_field-field.ensures.view in
    let made = subst (λ (x : Trail). Adds (MakesFields v.used.fields) v.trail x) (sym is) (adds-field v.trail v.used.fields f c.args.child c.args.detail (omega arith)) in
    both-fill c.args.child v.used.entries v.used.fields v.trail mid.trail end made
    (subst (λ (e : ℕ). Adds (FillsArray c.args.child e) mid.trail end) entries c.copy.ensures.writes)
