use Rattle.std.proofs.Common.{◌≡◌, ℕ, ◌+◌, Some, ap, ◌∙◌, subst, arith}
use Rattle.hc_heap.specs.Writes.{Trail}
use Rattle.hc_heap.specs.Readings.{gate_in, owner_in, detail_in}
use Rattle.hc_heap.specs.Kept.{Adds}
use Rattle.hc_heap.specs.States.{View}
use Rattle.hc_descs.specs.Entries.{AreFree, entries_in}
use Rattle.hc_descs.specs.Copies.{FillsArray, HasEntriesBut, HasOwnArray}
use Rattle.hc_tree.specs.Copying.{FillsOne, with_field}
use Rattle.hc_tree.proofs.Arrays.{own-has}
use Rattle.hc_tree.proofs.Filled.{count-is}
use Rattle.hc_tree.proofs.Exchanged.{field-detail, field-fills, field-owner}
use Rattle.hc_tree.proofs.exchange.fill_but.Given.{Over}
use Rattle.hc_tree.proofs.exchange.fill_but.Goals as goal

-- the field is the first that is handed out
first-is : (g : Over) (c : goal.After-copy_but g) → c.new_field-field.result ≡ c.args.h.now.view.used.fields
first-is g c = c.new_field-field.ensures.fresh

pub returns-clause-entries : goal.returns-clause-entries
returns-clause-entries g c =
    let t = c.args.h.now.view.trail in
    let f = c.new_field-field.result in
    let end = c.copy_but.new.h.view.trail in
    let is : c.new_field-field.new.h.view.trail ≡ with_field t f c.args.copy c.args.detail = ap (λ (v : View). v.trail) c.new_field-field.ensures.view in
    let count : entries_in (gate_in c.new_field-field.new.h.view.trail c.args.map) ≡ c.args.n = ap (λ (x : Trail). entries_in (gate_in x c.args.map)) is ∙ count-is (gate_in t c.args.map) c.args.n c.requires.open in
    subst (λ (y : ℕ). HasEntriesBut end c.args.copy c.args.map c.args.n c.args.place y) c.new_field-field.ensures.fresh
    (subst (λ (k : ℕ). HasEntriesBut end c.args.copy c.args.map k c.args.place f) count c.copy_but.ensures.all)

filled : (g : Over) (c : goal.After-copy_but g) → Adds (FillsArray c.args.copy c.new_field-field.new.h.view.used.entries) (with_field c.args.h.now.view.trail c.new_field-field.result c.args.copy c.args.detail) c.copy_but.new.h.view.trail
filled g c =
    let end = c.copy_but.new.h.view.trail in
    let e = c.new_field-field.new.h.view.used.entries in
    subst (λ (x : Trail). Adds (FillsArray c.args.copy e) x end) (ap (λ (v : View). v.trail) c.new_field-field.ensures.view) c.copy_but.ensures.writes

pub returns-clause-owner : goal.returns-clause-owner
returns-clause-owner g c =
    let t = c.args.h.now.view.trail in
    subst (λ (x : ℕ). owner_in c.copy_but.new.h.view.trail x ≡ Some c.args.copy) c.new_field-field.ensures.fresh
    (field-owner t c.copy_but.new.h.view.trail c.args.copy c.new_field-field.new.h.view.used.entries c.new_field-field.result c.args.detail (filled g c))

pub returns-clause-detail : goal.returns-clause-detail
returns-clause-detail g c =
    let t = c.args.h.now.view.trail in
    subst (λ (x : ℕ). detail_in c.copy_but.new.h.view.trail x ≡ Some c.args.detail) c.new_field-field.ensures.fresh
    (field-detail t c.copy_but.new.h.view.trail c.args.copy c.new_field-field.new.h.view.used.entries c.new_field-field.result c.args.detail (filled g c))

pub returns-clause-array : goal.returns-clause-array
returns-clause-array g c =
    let t = c.args.h.now.view.trail in
    let f = c.new_field-field.result in
    let end = c.copy_but.new.h.view.trail in
    let e = c.new_field-field.new.h.view.used.entries in
    let is : c.new_field-field.new.h.view.trail ≡ with_field t f c.args.copy c.args.detail = ap (λ (v : View). v.trail) c.new_field-field.ensures.view in
    let count : entries_in (gate_in c.new_field-field.new.h.view.trail c.args.map) ≡ c.args.n = ap (λ (x : Trail). entries_in (gate_in x c.args.map)) is ∙ count-is (gate_in t c.args.map) c.args.n c.requires.open in
    let some = c.requires.entry in
    own-has end c.args.copy c.args.n e (omega (arith, some))
    (subst (λ (k : ℕ). HasOwnArray end c.args.copy k e) count c.copy_but.ensures.array)
    (subst (λ (k : ℕ). AreFree end (e + k)) count c.copy_but.ensures.spare)

pub returns-clause-writes : goal.returns-clause-writes
returns-clause-writes g c =
    let v = c.args.h.now.view in
    let mid = c.new_field-field.new.h.view in
    let end = c.copy_but.new.h.view.trail in
    let entries : mid.used.entries ≡ v.used.entries = ap (λ (w : View). w.used.entries) c.new_field-field.ensures.view in
    subst (λ (x : ℕ). Adds (FillsOne c.args.copy x v.used.fields c.args.detail) v.trail end) entries
    (subst (λ (x : ℕ). Adds (FillsOne c.args.copy mid.used.entries x c.args.detail) v.trail end) c.new_field-field.ensures.fresh
    (field-fills v.trail end c.args.copy mid.used.entries c.new_field-field.result c.args.detail (filled g c)))
