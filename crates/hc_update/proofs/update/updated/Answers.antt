use Rattle.std.proofs.Common.{◌≡◌, ◌∙◌, ℕ, ap, sym, subst, false, Some}
use Rattle.hc_heap.specs.Readings.{bits_in, gate_in}
use Rattle.hc_heap.specs.States.{HeapState, View}
use Rattle.hc_descs.specs.Entries.{count_of, entries_in}
use Rattle.hc_tree.specs.Tree.{gate_with}
use Rattle.hc_update.proofs.Raised.{root-live, shared-gate}
use Rattle.hc_update.proofs.update.updated.Goals as goal

pub of_walk-requires : goal.of_walk-requires
of_walk-requires g c =
    let v = c.args.h.now.view in
    record { few = (c.gates_are_open.ensures.law v.shape v.trail c.args.map c.unwrap-n.result c.stands.ensures.heap.lawful (sym c.gate.ensures.value ∙ c.unwrap-n.ensures)).few }

pub renew-requires-clause-live : goal.renew-requires-clause-live
renew-requires-clause-live g c =
    let v = c.args.h.now.view in
    let read : c.gate.new.self.view ≡ v = ap (λ (s : HeapState g.row.P.Denot). s.view) c.gate.ensures.new in
    subst (λ (x : View). (bits_in x.trail c.args.root).deprecated ≡ false) (sym read) (root-live v.trail c.args.root c.requires.tree c.requires.root)

pub renew-requires-clause-map : goal.renew-requires-clause-map
renew-requires-clause-map g c =
    let v = c.args.h.now.view in
    let m = c.args.map in
    let read : c.gate.new.self.view ≡ v = ap (λ (s : HeapState g.row.P.Denot). s.view) c.gate.ensures.new in
    let size : count_of v.trail m ≡ c.unwrap-n.result.entries = ap entries_in (sym c.gate.ensures.value ∙ c.unwrap-n.ensures) in
    ap (λ (x : View). gate_in x.trail m) read ∙ subst (λ (x : ℕ). gate_in v.trail m ≡ Some (gate_with x false)) size (shared-gate v.trail m c.requires.tree c.requires.map)
