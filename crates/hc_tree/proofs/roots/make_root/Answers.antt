use Rattle.std.proofs.Common.{◌∙◌, ap, sym, subst, arith, None, false}
use Rattle.hc_heap.specs.Writes.{Gate, Parent, Prototype}
use Rattle.hc_heap.specs.Readings.{prototype_in}
use Rattle.hc_heap.specs.Lawful.{AllWithin, LawfulPrototype, LawfulGate}
use Rattle.hc_heap.specs.States.{View, IsHeap, with_write}
use Rattle.hc_tree.specs.Tree.{IsTree, gate_with}
use Rattle.hc_tree.proofs.Fresh.{new-map, may-there, may-marked, root-gate, root-tree}
use Rattle.hc_tree.proofs.roots.make_root.Goals as goal

pub set_parent-requires-clause-lawful : goal.set_parent-requires-clause-lawful
set_parent-requires-clause-lawful g c =
    let new = new-map c.unused_says_nothing.ensures.law c.args.h.now.view.used c.fresh-root.new.self.view.trail c.fresh-root.result c.fresh-root.ensures.unused (omega arith) in
    record { unwritten = new.parent; there = tt }

pub set_proto-requires-clause-lawful : goal.set_proto-requires-clause-lawful
set_proto-requires-clause-lawful g c =
    let v = c.args.h.now.view in
    let r = c.fresh-root.result in
    let first = ap (λ s. s.view) c.fresh-root.ensures.new in
    let new = new-map c.unused_says_nothing.ensures.law v.used c.fresh-root.new.self.view.trail r c.fresh-root.ensures.unused (omega arith) in
    let none = new.prototype in
    subst (λ (w : View). LawfulPrototype w.shape w.trail r c.args.proto) (sym (c.set_parent.ensures.view ∙ ap (λ (w : View). with_write w (Parent r None)) first)) (record {
      unwritten = ap (λ (w : View). prototype_in w.trail r) (sym first) ∙ none;
      there = may-there v c.args.proto c.stands.ensures.heap c.requires.proto;
      marked = may-marked v.used v.trail c.args.proto c.requires.proto;
    })

pub set_gate-requires-clause-lawful : goal.set_gate-requires-clause-lawful
set_gate-requires-clause-lawful g c =
    let v = c.args.h.now.view in
    let r = c.fresh-root.result in
    let first = ap (λ s. s.view) c.fresh-root.ensures.new in
    let second = c.set_parent.ensures.view ∙ ap (λ (w : View). with_write w (Parent r None)) first in
    let third = c.set_proto.ensures.view ∙ ap (λ (w : View). with_write w (Prototype r c.args.proto)) second in
    let new = new-map c.unused_says_nothing.ensures.law v.used v.trail r (subst (λ (w : View). AllWithin v.used w.trail) first c.fresh-root.ensures.unused) (omega arith) in
    subst (λ (w : View). LawfulGate w.shape w.trail r (gate_with 0 false)) (sym third) (root-gate v.shape v.trail c.args.proto r new)

pub returns-clause-tree : goal.returns-clause-tree
returns-clause-tree g c =
    let v = c.args.h.now.view in
    let r = c.fresh-root.result in
    let first = ap (λ s. s.view) c.fresh-root.ensures.new in
    let second = c.set_parent.ensures.view ∙ ap (λ (w : View). with_write w (Parent r None)) first in
    let third = c.set_proto.ensures.view ∙ ap (λ (w : View). with_write w (Prototype r c.args.proto)) second in
    let last = c.set_gate.ensures.view ∙ ap (λ (w : View). with_write w (Gate r (gate_with 0 false))) third in
    let new = new-map c.unused_says_nothing.ensures.law v.used v.trail r (subst (λ (w : View). AllWithin v.used w.trail) first c.fresh-root.ensures.unused) (omega arith) in
    let whole = subst IsHeap last c.set_gate.ensures.heap in
    subst (λ (w : View). IsTree w.trail) (sym last) (root-tree c.maps_are_kept.ensures.law c.links_are_chained.ensures.law v.shape v.trail c.args.proto r whole.lawful new c.requires.tree)

pub returns-clause-went : goal.returns-clause-went
returns-clause-went g c =
    let a = c.args.h.now in
    let p1 = c.set_parent.new.self in
    let p2 = c.set_proto.new.self in
    let p3 = c.set_gate.new.self in
    let first : g.P.Pace.went a.pace a.desk.trail p1.desk.trail p1.pace = subst (λ s. g.P.Pace.went s.pace s.desk.trail p1.desk.trail p1.pace) c.fresh-root.ensures.new c.set_parent.ensures.went in
    let second = g.met.P.Pace.goes_on a.pace p1.pace p2.pace a.desk.trail p1.desk.trail p2.desk.trail first c.set_proto.ensures.went in
    g.met.P.Pace.goes_on a.pace p2.pace p3.pace a.desk.trail p2.desk.trail p3.desk.trail second c.set_gate.ensures.went
