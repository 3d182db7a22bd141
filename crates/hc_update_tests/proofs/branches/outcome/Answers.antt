use Rattle.std.proofs.Common.{◌≡◌, false, None, ap, sym, subst}
use Rattle.std.specs.Prelude.{IsSomeAnd}
use Rattle.hc_heap.specs.Readings.{gate_in}
use Rattle.hc_heap.specs.States.{HeapState, View}
use Rattle.hc_tree.specs.Tree.{IsRoot, IsTree, gate_with}
use Rattle.hc_update.specs.Updating.{IsSomeRoot}
use Rattle.hc_update_tests.proofs.Ended.{end-begins, end-shared, entry-of, roots-stay}
use Rattle.hc_update_tests.proofs.branches.outcome.Goals as goal

pub next-requires-clause-end : goal.next-requires-clause-end
next-requires-clause-end c = end-begins c.root.new.h.view c.in-Ok.root None c.in-Ok.ensures.heap c.in-Ok.ensures.tree c.in-Ok.ensures.root

pub detail_at-now-requires : goal.detail_at-now-requires
detail_at-now-requires c =
    let it = (c.in-Ok-generalise.ensures.made (gate_with 3 false) c.in_ok-third.ensures.end.gate).renewed in
    record { entry = entry-of _ 3 _ false it.gate c.requires.entry }

pub updated-requires-clause-tree : goal.updated-requires-clause-tree
updated-requires-clause-tree c =
    let y = c.generalise.new.h.view in
    let it = (c.in-Ok-generalise.ensures.made (gate_with 3 false) c.in_ok-third.ensures.end.gate).renewed in
    let read : c.detail_at-now.new.h.view ≡ y = ap (λ (s : HeapState _). s.view) c.detail_at-now.ensures.same in
    subst (λ (v : View). IsTree v.trail) (sym read) it.tree

pub updated-requires-clause-map : goal.updated-requires-clause-map
updated-requires-clause-map c =
    let x = c.next-3.new.heap.view in
    let y = c.generalise.new.h.view in
    let it = (c.in-Ok-generalise.ensures.made (gate_with 3 false) c.in_ok-third.ensures.end.gate).renewed in
    let read : c.detail_at-now.new.h.view ≡ y = ap (λ (s : HeapState _). s.view) c.detail_at-now.ensures.same in
    subst (λ (v : View). IsSomeAnd (gate_in v.trail c.in_ok-third.third) (λ g. g.is_private ≡ false)) (sym read)
    (end-shared c.maps_are_kept.ensures.law x y c.in_ok-third.third 3 it.shape it.writes it.heap c.in_ok-third.ensures.end)

pub updated-requires-clause-root : goal.updated-requires-clause-root
updated-requires-clause-root c =
    let x = c.next-3.new.heap.view in
    let y = c.generalise.new.h.view in
    let it = (c.in-Ok-generalise.ensures.made (gate_with 3 false) c.in_ok-third.ensures.end.gate).renewed in
    let read : c.detail_at-now.new.h.view ≡ y = ap (λ (s : HeapState _). s.view) c.detail_at-now.ensures.same in
    let r = c.in-Ok.root in
    let then : IsRoot x.trail None r = c.next-3.ensures.roots r (c.beside.ensures.roots r (c.next-2.ensures.roots r (c.next.ensures.roots r c.in-Ok.ensures.root))) in
    let now : IsRoot y.trail None r = roots-stay c.maps_are_kept.ensures.law x y it.shape it.writes c.in_ok-third.ensures.end.heap it.heap r then in
    subst (λ (v : View). IsSomeRoot v.trail r) (sym read) (record { prototype = None; root = now })
