use Rattle.std.proofs.Common.{◌∙◌, ap, sym, subst, arith, None}
use Rattle.hc_heap.specs.Writes.{Parent, Prototype}
use Rattle.hc_heap.specs.Readings.{prototype_in, array_in}
use Rattle.hc_heap.specs.Lawful.{AllWithin, LawfulPrototype}
use Rattle.hc_heap.specs.States.{View, IsHeap, with_write}
use Rattle.hc_tree.specs.Tree.{IsTree}
use Rattle.hc_tree.specs.Copying.{IsClosed}
use Rattle.hc_tree.proofs.Fresh.{new-map, may-there, may-marked}
use Rattle.hc_tree.proofs.Copied.{closed-map, closed-tree}
use Rattle.hc_tree.proofs.copies.new_closed.Goals as goal

pub set_parent-requires-clause-lawful : goal.set_parent-requires-clause-lawful
set_parent-requires-clause-lawful g c =
    let new = new-map c.unused_says_nothing.ensures.law c.args.h.now.view.used c.fresh-map.new.self.view.trail c.fresh-map.result c.fresh-map.ensures.unused (omega arith) in
    record { unwritten = new.parent; there = tt }

pub set_proto-requires-clause-lawful : goal.set_proto-requires-clause-lawful
set_proto-requires-clause-lawful g c =
    let v = c.args.h.now.view in
    let m = c.fresh-map.result in
    let first = ap (λ s. s.view) c.fresh-map.ensures.new in
    let new = new-map c.unused_says_nothing.ensures.law v.used c.fresh-map.new.self.view.trail m c.fresh-map.ensures.unused (omega arith) in
    let none = new.prototype in
    subst (λ (w : View). LawfulPrototype w.shape w.trail m c.args.proto) (sym (c.set_parent.ensures.view ∙ ap (λ (w : View). with_write w (Parent m None)) first)) (record {
      unwritten = ap (λ (w : View). prototype_in w.trail m) (sym first) ∙ none;
      there = may-there v c.args.proto c.stands.ensures.heap c.requires.proto;
      marked = may-marked v.used v.trail c.args.proto c.requires.proto;
    })

pub returns-clause-closed : goal.returns-clause-closed
returns-clause-closed g c =
    let v = c.args.h.now.view in
    let m = c.fresh-map.result in
    let first = ap (λ s. s.view) c.fresh-map.ensures.new in
    let second = c.set_parent.ensures.view ∙ ap (λ (w : View). with_write w (Parent m None)) first in
    let third = c.set_proto.ensures.view ∙ ap (λ (w : View). with_write w (Prototype m c.args.proto)) second in
    let new = new-map c.unused_says_nothing.ensures.law v.used v.trail m (subst (λ (w : View). AllWithin v.used w.trail) first c.fresh-map.ensures.unused) (omega arith) in
    let begin = c.stands.ensures.heap in
    subst (λ (w : View). IsClosed w.trail m) (sym third) (closed-map c.links_are_chained.ensures.law v.shape v.trail c.args.proto m begin.lawful new)

pub returns-clause-bare : goal.returns-clause-bare
returns-clause-bare g c =
    let v = c.args.h.now.view in
    let m = c.fresh-map.result in
    let first = ap (λ s. s.view) c.fresh-map.ensures.new in
    let second = c.set_parent.ensures.view ∙ ap (λ (w : View). with_write w (Parent m None)) first in
    let third = c.set_proto.ensures.view ∙ ap (λ (w : View). with_write w (Prototype m c.args.proto)) second in
    let new = new-map c.unused_says_nothing.ensures.law v.used v.trail m (subst (λ (w : View). AllWithin v.used w.trail) first c.fresh-map.ensures.unused) (omega arith) in
    ap (λ (w : View). array_in w.trail m) third ∙ new.array

pub returns-clause-tree : goal.returns-clause-tree
returns-clause-tree g c =
    let v = c.args.h.now.view in
    let m = c.fresh-map.result in
    let first = ap (λ s. s.view) c.fresh-map.ensures.new in
    let second = c.set_parent.ensures.view ∙ ap (λ (w : View). with_write w (Parent m None)) first in
    let third = c.set_proto.ensures.view ∙ ap (λ (w : View). with_write w (Prototype m c.args.proto)) second in
    let whole = subst IsHeap third c.set_proto.ensures.heap in
    subst (λ (w : View). IsTree w.trail) (sym third) (closed-tree c.maps_are_kept.ensures.law v.shape v.trail c.args.proto m whole.lawful c.requires.tree)
