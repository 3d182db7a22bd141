use Rattle.std.proofs.Common.{◌≡◌, ℕ, ◌<◌, Option, Some, ap, sym, ◌∙◌, subst, true}
use Rattle.std.specs.Prelude.{IsSomeAnd}
use Rattle.hc_layout.specs.declared.words.GateWord.{GateWord}
use Rattle.hc_value.specs.declared.field.Detail.{Detail}
use Rattle.hc_heap.specs.Readings.{detail_in}
use Rattle.hc_heap.specs.Kept.{Adds}
use Rattle.hc_heap.specs.States.{HeapState, View}
use Rattle.hc_tree.specs.Tree.{gate_with}
use Rattle.hc_tree.specs.Details.{GetsOne, NoMap, Reshapes, detail_at}
use Rattle.hc_tree.specs.Frames.{details-by}
use Rattle.hc_tree.specs.Walking.{MayAdmit, both_details}
use Rattle.hc_tree.proofs.Wants.{own-admits, with-admits}
use Rattle.hc_tree.proofs.exchange.exchange_field.Goals as goal

pub detail_at-own-requires : goal.detail_at-own-requires
detail_at-own-requires g c = record { entry = subst (λ (o : Option GateWord). IsSomeAnd o (λ x. c.args.place < x.entries)) (sym c.requires.map) c.requires.entry }

pub make_exchanged-requires-clause-admits : goal.make_exchanged-requires-clause-admits
make_exchanged-requires-clause-admits g c =
    let v = c.args.h.now.view in
    let own = own-admits v c.args.map c.args.place (gate_with c.args.n true) c.detail_at-own.result c.requires.tree c.requires.map c.requires.entry c.detail_at-own.ensures.value c.detail_at-own.ensures.form c.detail_at-own.ensures.there in
    subst (λ (x : View). MayAdmit x.shape x.trail c.args.map c.args.place c.join.result) (sym (ap (λ (s : HeapState g.row.P.Denot). s.view) c.detail_at-own.ensures.same))
    (subst (λ (d : Detail). MayAdmit v.shape v.trail c.args.map c.args.place d) (sym c.join.ensures.value) (with-admits v.shape v.trail c.args.map c.args.place c.detail_at-own.result c.args.detail own c.requires.detail))

pub returns-clause-writes : goal.returns-clause-writes
returns-clause-writes g c =
    let v = c.args.h.now.view in
    let new = c.make_exchanged.new.h.view.trail in
    let read : c.detail_at-own.new.h.view ≡ v = ap (λ (s : HeapState g.row.P.Denot). s.view) c.detail_at-own.ensures.same in
    let wanted : both_details (detail_at v.trail c.args.map c.args.place) (Some c.args.detail) ≡ Some c.join.result =
    ap (λ (o : Option Detail). both_details o (Some c.args.detail)) c.detail_at-own.ensures.value ∙ ap (λ (d : Detail). Some d) (sym c.join.ensures.value) in
    subst (λ (o : Option Detail). Adds (Reshapes v.used NoMap (GetsOne v.used.fields o)) v.trail new) (sym wanted)
    (subst (λ (x : View). Adds (Reshapes x.used NoMap (GetsOne x.used.fields (Some c.join.result))) x.trail new) read c.make_exchanged.ensures.writes)

pub returns-clause-details : goal.returns-clause-details
returns-clause-details g c =
    let v = c.args.h.now.view in
    let new = c.make_exchanged.new.h.view.trail in
    let read : c.detail_at-own.new.h.view ≡ v = ap (λ (s : HeapState g.row.P.Denot). s.view) c.detail_at-own.ensures.same in
    let wanted : both_details (detail_at v.trail c.args.map c.args.place) (Some c.args.detail) ≡ Some c.join.result =
    ap (λ (o : Option Detail). both_details o (Some c.args.detail)) c.detail_at-own.ensures.value ∙ ap (λ (d : Detail). Some d) (sym c.join.ensures.value) in
    let here : detail_in new v.used.fields ≡ Some c.join.result = subst (λ (x : View). detail_in new x.used.fields ≡ Some c.join.result) read c.make_exchanged.ensures.detail in
    details-by v.used NoMap (GetsOne v.used.fields (both_details (detail_at v.trail c.args.map c.args.place) (Some c.args.detail))) (returns-clause-writes g c)
    (λ f d got. ap (λ (x : ℕ). detail_in new x) got.0 ∙ here ∙ sym wanted ∙ got.1)
