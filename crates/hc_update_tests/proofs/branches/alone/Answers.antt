use Rattle.std.proofs.Common.{◌≡◌, ◌∙◌, ℕ, ap, sym, subst, true, None, Some}
use Rattle.hc_heap.specs.Readings.{gate_in}
use Rattle.hc_heap.specs.States.{HeapState, View}
use Rattle.hc_descs.specs.Entries.{count_of, entries_in}
use Rattle.hc_tree.specs.Tree.{gate_with}
use Rattle.hc_update_tests.proofs.Ended.{end-begins, entry-of}
use Rattle.hc_update_tests.proofs.branches.alone.Goals as goal

pub branch-heap-requires-clause-end : goal.branch-heap-requires-clause-end
branch-heap-requires-clause-end c = end-begins c.root.new.h.view c.in-Ok.root None c.in-Ok.ensures.heap c.in-Ok.ensures.tree c.in-Ok.ensures.root

pub detail_at-now-requires : goal.detail_at-now-requires
detail_at-now-requires c =
    let v = c.branch-heap.new.heap.view in
    let w = c.private_copy.new.h.view in
    let own = c.in-Ok-private_copy.own in
    let read : c.bits.new.self.view ≡ w = ap (λ (s : HeapState _). s.view) c.bits.ensures.new in
    let count : count_of v.trail c.in_ok-third.third ≡ 3 = ap entries_in c.in_ok-third.ensures.made.last.gate in
    let copied : gate_in w.trail own ≡ Some (gate_with (count_of v.trail c.in_ok-third.third) true) = c.in-Ok-private_copy.ensures.copy.gate in
    let gate : gate_in c.bits.new.self.view.trail own ≡ Some (gate_with 3 true) = ap (λ (x : View). gate_in x.trail own) read ∙ subst (λ (n : ℕ). gate_in w.trail own ≡ Some (gate_with n true)) count copied in
    record { entry = entry-of _ 3 _ true (c.in-Ok-generalise.ensures.made (gate_with 3 true) gate).gate c.requires.entry }
