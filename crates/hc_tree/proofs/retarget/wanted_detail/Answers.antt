use Rattle.std.proofs.Common.{◌≡◌, ◌≤◌, ◌∙◌, ap, sym, subst, arith, false, Some}
use Rattle.hc_layout.specs.declared.words.GateWord.{GateWord}
use Rattle.hc_heap.specs.Readings.{gate_in}
use Rattle.hc_heap.specs.States.{HeapState, View}
use Rattle.hc_value.specs.declared.field.Detail.{Detail}
use Rattle.hc_heap.specs.Lawful.{IsClassThere}
use Rattle.hc_tree.specs.Tree.{gate_with}
use Rattle.hc_tree.specs.Details.{detail_at}
use Rattle.hc_tree.specs.declared.retarget.Wanted.{Wanted}
use Rattle.hc_tree.specs.Walking.{HasFirstKeys, IsDetail, MayAdmit, MayBeWanted}
use Rattle.hc_tree.proofs.Made.{some-with}
use Rattle.hc_tree.proofs.Wants.{joined-admits, own-admits, with-admits}
use Rattle.hc_tree.proofs.retarget.wanted_detail.Goals as goal

pub returns-else-k-first-clause-admits : goal.returns-else-k-first-clause-admits
returns-else-k-first-clause-admits g c = own-admits c.args.h.now.view c.args.map c.args.k (gate_with c.args.n false) c.detail_at-own.result c.requires.tree c.requires.map c.requires.entry c.detail_at-own.ensures.value c.detail_at-own.ensures.form c.detail_at-own.ensures.there

pub returns-else-k-count-clause-admits : goal.returns-else-k-count-clause-admits
returns-else-k-count-clause-admits g c = own-admits c.args.h.now.view c.args.map c.args.k (gate_with c.args.n false) c.detail_at-own.result c.requires.tree c.requires.map c.requires.entry c.detail_at-own.ensures.value c.detail_at-own.ensures.form c.detail_at-own.ensures.there

pub returns-then-k-count-clause-admits : goal.returns-then-k-count-clause-admits
returns-then-k-count-clause-admits g c =
    let v = c.args.h.now.view in
    let m = c.args.map in
    let k = c.args.k in
    let end = c.in-Joined.end in
    let count = c.in-Joined.count in
    let d = c.detail_at-own.result in
    let e = c.detail_at.result in
    let read : c.detail_at-own.new.h.view ≡ v = ap (λ (s : HeapState g.row.P.Denot). s.view) c.detail_at-own.ensures.same in
    let first : HasFirstKeys v.trail end m count = subst (λ (w : Wanted). MayBeWanted v.shape v.trail m c.args.first w) c.in-Joined.is c.requires.wanted in
    let at : detail_at v.trail end k ≡ Some e = subst (λ (x : View). detail_at x.trail end k ≡ Some e) read c.detail_at.ensures.value in
    let there : IsClassThere v.shape v.trail e.class = subst (λ (x : View). IsClassThere x.shape x.trail e.class) read c.detail_at.ensures.there in
    let gate = some-with (λ (x : GateWord). count ≤ x.entries) (gate_in v.trail end) first.is_open in
    let most = gate.1.1 in
    let below = c.if-k-count.true in
    let own = own-admits v m k (gate_with c.args.n false) d c.requires.tree c.requires.map c.requires.entry c.detail_at-own.ensures.value c.detail_at-own.ensures.form c.detail_at-own.ensures.there in
    let other = own-admits v end k gate.0 e c.requires.tree gate.1.0 (omega (arith, most, below)) at c.detail_at.ensures.form there in
    subst (λ (x : Detail). MayAdmit v.shape v.trail m k x) (sym c.join-then-k-count.ensures.value) (joined-admits v.shape v.trail m k d e own other.is (λ key here kind. other.accessor key (first.keys k below ∙ here) kind))

pub returns-then-k-first-clause-admits : goal.returns-then-k-first-clause-admits
returns-then-k-first-clause-admits g c =
    let v = c.args.h.now.view in
    let m = c.args.map in
    let k = c.args.k in
    let d = c.detail_at-own.result in
    let own = own-admits v m k (gate_with c.args.n false) d c.requires.tree c.requires.map c.requires.entry c.detail_at-own.ensures.value c.detail_at-own.ensures.form c.detail_at-own.ensures.there in
    let other : IsDetail v.shape v.trail c.in-With.detail = subst (λ (w : Wanted). MayBeWanted v.shape v.trail m c.args.first w) c.in-With.is c.requires.wanted in
    subst (λ (x : Detail). MayAdmit v.shape v.trail m k x) (sym c.join.ensures.value) (with-admits v.shape v.trail m k d c.in-With.detail own other)
