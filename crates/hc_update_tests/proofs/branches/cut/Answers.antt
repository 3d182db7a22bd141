use Rattle.std.proofs.Common.{◌≡◌, ◌<◌, ap, sym, subst, arith, false, None, Some, Option}
use Rattle.std.specs.Prelude.{IsSomeAnd}
use Rattle.hc_layout.specs.declared.words.GateWord.{GateWord}
use Rattle.hc_heap.specs.Readings.{gate_in}
use Rattle.hc_heap.specs.States.{HeapState, View}
use Rattle.hc_descs.specs.Entries.{count_of, entries_in}
use Rattle.hc_tree.specs.Tree.{IsRoot, gate_with}
use Rattle.hc_update_tests.specs.Branches.{IsUnderOf}
use Rattle.hc_update_tests.proofs.Ended.{children-stay, end-begins, roots-stay, shared-of}
use Rattle.hc_update_tests.proofs.branches.cut.Goals as goal

pub branch-heap-requires-clause-end : goal.branch-heap-requires-clause-end
branch-heap-requires-clause-end c = end-begins c.root.new.h.view c.in-Ok.root None c.in-Ok.ensures.heap c.in-Ok.ensures.tree c.in-Ok.ensures.root

pub branch-heap-requires-2-clause-end : goal.branch-heap-requires-2-clause-end
branch-heap-requires-2-clause-end c =
    let v = c.branch-heap.new.heap.view in
    let w = c.deprecate.new.h.view in
    let dies = c.deprecate.ensures.dies in
    let r = c.in-Ok.root in
    let then : IsRoot v.trail None r = c.branch-heap.ensures.roots r c.in-Ok.ensures.root in
    end-begins w r None dies.heap dies.tree (roots-stay c.maps_are_kept.ensures.law v w (ap (λ (x : View). x.shape) dies.view) dies.writes c.in_ok-first.ensures.made.end.heap dies.heap r then)

pub updated-requires-clause-map : goal.updated-requires-clause-map
updated-requires-clause-map c =
    let v = c.branch-heap.new.heap.view in
    let w = c.deprecate.new.h.view in
    let x = c.branch-heap-2.new.heap.view in
    let dies = c.deprecate.ensures.dies in
    let it = c.in_ok-first.ensures.made in
    let m = c.in_ok-first.third in
    let now : IsUnderOf x.trail m 3 it.middle = c.branch-heap-2.ensures.children m 3 it.middle (children-stay c.maps_are_kept.ensures.law v w (ap (λ (y : View). y.shape) dies.view) dies.writes it.end.heap dies.heap m 3 it.middle it.last) in
    shared-of (gate_in x.trail m) 3 now.gate

pub updated-requires-clause-root : goal.updated-requires-clause-root
updated-requires-clause-root c =
    let v = c.branch-heap.new.heap.view in
    let w = c.deprecate.new.h.view in
    let x = c.branch-heap-2.new.heap.view in
    let dies = c.deprecate.ensures.dies in
    let r = c.in-Ok.root in
    let then : IsRoot v.trail None r = c.branch-heap.ensures.roots r c.in-Ok.ensures.root in
    let later : IsRoot w.trail None r = roots-stay c.maps_are_kept.ensures.law v w (ap (λ (y : View). y.shape) dies.view) dies.writes c.in_ok-first.ensures.made.end.heap dies.heap r then in
    record { prototype = None; root = c.branch-heap-2.ensures.roots r later }

pub detail_at-second-requires : goal.detail_at-second-requires
detail_at-second-requires c =
    let v = c.branch-heap.new.heap.view in
    let w = c.deprecate.new.h.view in
    let x = c.branch-heap-2.new.heap.view in
    let y = c.updated.new.h.view in
    let dies = c.deprecate.ensures.dies in
    let it = c.in_ok-first.ensures.made in
    let m = c.in_ok-first.third in
    let now : IsUnderOf x.trail m 3 it.middle = c.branch-heap-2.ensures.children m 3 it.middle (children-stay c.maps_are_kept.ensures.law v w (ap (λ (z : View). z.shape) dies.view) dies.writes it.end.heap dies.heap m 3 it.middle it.last) in
    let count : count_of x.trail m ≡ 3 = ap entries_in now.gate in
    let gate : gate_in y.trail c.in-Ok-updated.map ≡ Some (gate_with (count_of x.trail m) false) = c.in-Ok-updated.ensures.updated.renewed.gate in
    record { entry = subst (λ (o : Option GateWord). IsSomeAnd o (λ g. 1 < g.entries)) (sym gate) (omega (arith, count)) }

pub detail_at-third-requires : goal.detail_at-third-requires
detail_at-third-requires c =
    let v = c.branch-heap.new.heap.view in
    let w = c.deprecate.new.h.view in
    let x = c.branch-heap-2.new.heap.view in
    let y = c.updated.new.h.view in
    let dies = c.deprecate.ensures.dies in
    let it = c.in_ok-first.ensures.made in
    let m = c.in_ok-first.third in
    let now : IsUnderOf x.trail m 3 it.middle = c.branch-heap-2.ensures.children m 3 it.middle (children-stay c.maps_are_kept.ensures.law v w (ap (λ (z : View). z.shape) dies.view) dies.writes it.end.heap dies.heap m 3 it.middle it.last) in
    let count : count_of x.trail m ≡ 3 = ap entries_in now.gate in
    let gate : gate_in y.trail c.in-Ok-updated.map ≡ Some (gate_with (count_of x.trail m) false) = c.in-Ok-updated.ensures.updated.renewed.gate in
    let read : c.detail_at-second.new.h.view ≡ y = ap (λ (h : HeapState _). h.view) c.detail_at-second.ensures.same in
    record { entry = subst (λ (z : View). IsSomeAnd (gate_in z.trail c.in-Ok-updated.map) (λ g. 2 < g.entries)) (sym read) (subst (λ (o : Option GateWord). IsSomeAnd o (λ g. 2 < g.entries)) (sym gate) (omega (arith, count))) }
