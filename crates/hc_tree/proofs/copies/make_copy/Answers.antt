use Rattle.std.proofs.Common.{◌≡◌, ℕ, ◌+◌, None, Some, true, ap, sym, ◌∙◌, subst, arith, IfSome}
use Rattle.std.specs.Prelude.{IsSomeAnd}
use Rattle.hc_layout.specs.declared.shape.Shape.{Shape}
use Rattle.hc_heap.specs.Writes.{Trail, Gate}
use Rattle.hc_heap.specs.Readings.{detail_in, gate_in}
use Rattle.hc_layout.specs.declared.words.GateWord.{GateWord}
use Rattle.hc_heap.specs.Lawful.{Lawful}
use Rattle.hc_heap.specs.Kept.{Adds}
use Rattle.hc_heap.specs.States.{View, with_write}
use Rattle.hc_descs.specs.Copies.{HasArray}
use Rattle.hc_tree.specs.Tree.{gate_with}
use Rattle.hc_tree.specs.Growth.{IsPlaced, MakesMap}
use Rattle.hc_tree.proofs.Placed.{copied-placed}
use Rattle.hc_tree.specs.Copying.{MayBeLast, FillsCopy, HasCopied, IsPrivateCopy, IsWhole, copied_fields, with_closed}
use Rattle.hc_tree.proofs.Got.{copy-got, extra-got}
use Rattle.hc_tree.proofs.Made.{some-with}
use Rattle.hc_tree.proofs.Whole.{fill-tree, fill-closed, fill-prototype, filled-whole, may-still, private-copy, makes-copy}
use Rattle.hc_tree.proofs.copies.make_copy.Goals as goal

pub fill-requires-clause-more : goal.fill-requires-clause-more
fill-requires-clause-more g c =
    let v = c.args.h.now.view in
    subst (λ (w : View). IfSome c.args.more (λ e. MayBeLast w.shape w.trail c.args.map e.0 e.1)) (sym c.new_closed-copy.ensures.view) (may-still v.shape c.args.more v.trail c.args.map c.new_closed-copy.result c.args.proto c.requires.more)

pub open_private-requires-clause-tree : goal.open_private-requires-clause-tree
open_private-requires-clause-tree g c =
    let a = c.new_closed-copy.new.h.view in
    let b = c.fill.new.h.view in
    let after = subst (λ (s : Shape). Lawful s b.trail) c.fill.ensures.shape c.fill.ensures.heap.lawful in
    fill-tree c.maps_are_kept.ensures.law a.shape a.trail b.trail c.new_closed-copy.result a.used.entries a.used.fields c.new_closed-copy.ensures.heap.lawful after c.fill.ensures.writes c.new_closed-copy.ensures.heap.arrays c.new_closed-copy.ensures.closed c.new_closed-copy.ensures.tree

pub open_private-requires-clause-closed : goal.open_private-requires-clause-closed
open_private-requires-clause-closed g c =
    let a = c.new_closed-copy.new.h.view in
    fill-closed a.trail c.fill.new.h.view.trail c.new_closed-copy.result a.used.entries a.used.fields c.fill.ensures.writes c.new_closed-copy.ensures.closed

pub open_private-requires-clause-whole : goal.open_private-requires-clause-whole
open_private-requires-clause-whole g c =
    let v = c.args.h.now.view in
    let a = c.new_closed-copy.new.h.view in
    let b = c.fill.new.h.view in
    let copy = c.new_closed-copy.result in
    let is = ap (λ (w : View). w.trail) c.new_closed-copy.ensures.view in
    let after = subst (λ (s : Shape). Lawful s b.trail) c.fill.ensures.shape c.fill.ensures.heap.lawful in
    let some = subst (λ (t : Trail). IsSomeAnd (gate_in t c.args.map) (λ x. x.entries ≡ c.args.n)) (sym is) c.requires.open in
    let may = subst (λ (w : View). IfSome c.args.more (λ e. MayBeLast w.shape w.trail c.args.map e.0 e.1)) (sym c.new_closed-copy.ensures.view) (may-still v.shape c.args.more v.trail c.args.map copy c.args.proto c.requires.more) in
    subst (λ (n : ℕ). IsWhole b.trail copy n) (sym c.copied.ensures)
    (filled-whole c.maps_are_kept.ensures.law a.shape c.args.fresh c.args.more a.trail b.trail copy a.used.entries a.used.fields c.args.map c.args.n a.used.fields
    c.new_closed-copy.ensures.heap.lawful after c.fill.ensures.writes some c.new_closed-copy.ensures.heap.arrays c.new_closed-copy.ensures.closed c.new_closed-copy.ensures.tree may c.fill.ensures.entries c.fill.ensures.last)

pub open_private-requires-clause-placed : goal.open_private-requires-clause-placed
open_private-requires-clause-placed g c =
    let v = c.args.h.now.view in
    let a = c.new_closed-copy.new.h.view in
    let b = c.fill.new.h.view in
    let is = ap (λ (w : View). w.trail) c.new_closed-copy.ensures.view in
    let after = subst (λ (s : Shape). Lawful s b.trail) c.fill.ensures.shape c.fill.ensures.heap.lawful in
    let some = subst (λ (t : Trail). IsSomeAnd (gate_in t c.args.map) (λ x. x.entries ≡ c.args.n)) (sym is) c.requires.open in
    subst (λ (n : ℕ). IsPlaced b.trail c.new_closed-copy.result n) (sym c.copied.ensures)
    (copied-placed c.maps_are_kept.ensures.law c.unused_says_nothing.ensures.law a b c.new_closed-copy.result a.used.entries a.used.fields c.args.map c.args.n c.new_closed-copy.ensures.heap after c.fill.ensures.writes some
    (open_private-requires-clause-tree g c) c.args.fresh c.args.more c.requires.alone c.fill.ensures.entries c.fill.ensures.number)

pub open_private-requires-clause-array : goal.open_private-requires-clause-array
open_private-requires-clause-array g c = subst (λ (n : ℕ). HasArray c.fill.new.h.view.trail c.new_closed-copy.result n) (sym c.copied.ensures) c.fill.ensures.array

pub returns-clause-copy : goal.returns-clause-copy
returns-clause-copy g c =
    let v = c.args.h.now.view in
    let a = c.new_closed-copy.new.h.view in
    let b = c.fill.new.h.view in
    let copy = c.new_closed-copy.result in
    let is = ap (λ (w : View). w.trail) c.new_closed-copy.ensures.view in
    let fields = ap (λ (w : View). w.used.fields) c.new_closed-copy.ensures.view in
    let last = c.open_private.ensures.view ∙ ap (λ (n : ℕ). with_write b (Gate copy (gate_with n true))) c.copied.ensures in
    let closed = fill-closed a.trail b.trail copy a.used.entries a.used.fields c.fill.ensures.writes c.new_closed-copy.ensures.closed in
    let writes = subst (λ (t : Trail). Adds (FillsCopy copy a.used.entries a.used.fields) t b.trail) is c.fill.ensures.writes in
    subst (λ (t : Trail). IsPrivateCopy c.args.fresh c.args.more c.args.proto t copy c.args.map c.args.n v.used.fields) (sym (ap (λ (w : View). w.trail) last))
    (private-copy c.args.fresh c.args.more c.args.proto b.trail copy c.args.map c.args.n v.used.fields closed.parent (fill-prototype v.trail b.trail copy a.used.entries a.used.fields c.args.proto writes)
    (subst (λ (f : ℕ). HasCopied c.args.fresh b.trail copy c.args.map c.args.n f) fields c.fill.ensures.entries) c.fill.ensures.last)

pub returns-clause-writes : goal.returns-clause-writes
returns-clause-writes g c =
    let v = c.args.h.now.view in
    let a = c.new_closed-copy.new.h.view in
    let b = c.fill.new.h.view in
    let copy = c.new_closed-copy.result in
    let is = ap (λ (w : View). w.trail) c.new_closed-copy.ensures.view in
    let entries = ap (λ (w : View). w.used.entries) c.new_closed-copy.ensures.view in
    let fields = ap (λ (w : View). w.used.fields) c.new_closed-copy.ensures.view in
    let writes = subst (λ (t : Trail). Adds (FillsCopy copy a.used.entries a.used.fields) t b.trail) is c.fill.ensures.writes in
    let within = subst (λ (e : ℕ). Adds (FillsCopy copy e v.used.fields) (with_closed v.trail c.args.proto copy) b.trail) entries
    (subst (λ (f : ℕ). Adds (FillsCopy copy a.used.entries f) (with_closed v.trail c.args.proto copy) b.trail) fields writes) in
    subst (λ (t : Trail). Adds (MakesMap v.used None) v.trail t) (sym (ap (λ (w : View). w.trail) c.open_private.ensures.view))
    (makes-copy v.used v.trail b.trail copy c.copied.result c.args.proto (omega (arith, c.new_closed-copy.ensures.number)) within)

pub returns-clause-details : goal.returns-clause-details
returns-clause-details g c =
    let v = c.args.h.now.view in
    let a = c.new_closed-copy.new.h.view in
    let b = c.fill.new.h.view in
    let w = c.open_private.new.h.view in
    let copy = c.new_closed-copy.result in
    let fields : a.used.fields ≡ v.used.fields = ap (λ (x : View). x.used.fields) c.new_closed-copy.ensures.view in
    let last = c.open_private.ensures.view in
    let some = some-with (λ (x : GateWord). x.entries ≡ c.args.n) (gate_in v.trail c.args.map) c.requires.open in
    let whole : IsPrivateCopy c.args.fresh c.args.more c.args.proto w.trail copy c.args.map c.args.n v.used.fields = returns-clause-copy g c in
    copy-got c.maps_are_kept.ensures.law c.unused_says_nothing.ensures.law v w copy c.args.map c.args.n some.0 c.stands.ensures.heap c.open_private.ensures.heap
    (ap (λ (x : View). x.shape) last ∙ (c.fill.ensures.shape ∙ ap (λ (x : View). x.shape) c.new_closed-copy.ensures.view)) some.1.0 some.1.1 (returns-clause-writes g c) c.args.fresh c.args.more whole.entries
    (ap (λ (x : View). x.used.fields) last ∙ (ap (λ (s : Shape). s.fields) c.fill.ensures.used ∙ ap (λ (k : ℕ). k + copied_fields c.args.fresh c.args.more c.args.n) fields))
    (λ e is. ap (λ (x : View). detail_in x.trail v.used.fields) last ∙ subst (λ (k : ℕ). detail_in b.trail k ≡ Some e.1) fields (extra-got c.args.more b.trail copy c.args.n a.used.fields e is c.fill.ensures.last (c.fill.ensures.number e is)))
