use Rattle.std.proofs.Common.{◌≡◌, ◌∙◌, true, ap, refl, sym, subst, true≢false}
use Rattle.std.specs.Prelude.{IsTrue, ◌↔◌}
use Rattle.hc_layout.specs.declared.words.StoreWord.{StoreWord}
use Rattle.hc_heap.specs.Readings.{store_in}
use Rattle.hc_heap.specs.States.{View, HeapState}
use Rattle.hc_tree.specs.declared.need.Need.{Need}
use Rattle.hc_tree.specs.Needs.{HasSpace}
use Rattle.hc_modes.specs.Changes.{key_of}
use Rattle.hc_modes.specs.Privates.{private_need}
use Rattle.hc_tree.specs.Details.{DetailsAre}
use Rattle.hc_modes.specs.Details.{GrownGets}
use Rattle.hc_modes.proofs.privates.grow_alone.Goals as goal

pub returns-then-not-has_space-clause-room : goal.returns-then-not-has_space-clause-room
returns-then-not-has_space-clause-room g c =
    let v = c.args.h.now.view in
    let read : c.store-store.new.self.view ≡ v = ap (λ (s : HeapState g.row.P.Denot). s.view) c.store-store.ensures.new in
    let need : c.need_of_growth.result ≡ private_need (key_of c.args.p) c.args.n (store_in v.trail c.args.object).capacity =
    c.need_of_growth.ensures (key_of c.args.p) ∙ ap (λ (s : StoreWord). private_need (key_of c.args.p) c.args.n s.capacity) c.store-store.ensures.value in
    let test : IsTrue c.has_space.result ↔ HasSpace v (private_need (key_of c.args.p) c.args.n (store_in v.trail c.args.object).capacity) =
    subst (λ (x : Need). IsTrue c.has_space.result ↔ HasSpace v x) need (subst (λ (x : View). IsTrue c.has_space.result ↔ HasSpace x c.need_of_growth.result) read c.has_space.ensures) in
    (λ no. absurd (true≢false (sym no)), λ space. sym c.if-not-has_space.true ∙ test.1 space)

pub grow_to_copy-requires-clause-space : goal.grow_to_copy-requires-clause-space
grow_to_copy-requires-clause-space g c =
    let v = c.args.h.now.view in
    let read : c.store-store.new.self.view ≡ v = ap (λ (s : HeapState g.row.P.Denot). s.view) c.store-store.ensures.new in
    let need : c.need_of_growth.result ≡ private_need (key_of c.args.p) c.args.n (store_in v.trail c.args.object).capacity =
    c.need_of_growth.ensures (key_of c.args.p) ∙ ap (λ (s : StoreWord). private_need (key_of c.args.p) c.args.n s.capacity) c.store-store.ensures.value in
    let test : IsTrue c.has_space.result ↔ HasSpace v (private_need (key_of c.args.p) c.args.n (store_in v.trail c.args.object).capacity) =
    subst (λ (x : Need). IsTrue c.has_space.result ↔ HasSpace v x) need (subst (λ (x : View). IsTrue c.has_space.result ↔ HasSpace x c.need_of_growth.result) read c.has_space.ensures) in
    subst (λ (x : View). HasSpace x (private_need (key_of c.args.p) c.args.n (store_in x.trail c.args.object).capacity)) (sym read) (test.0 c.if-not-has_space.false)

pub returns-clause-room : goal.returns-clause-room
returns-clause-room g c =
    let v = c.args.h.now.view in
    let read : c.store-store.new.self.view ≡ v = ap (λ (s : HeapState g.row.P.Denot). s.view) c.store-store.ensures.new in
    let need : c.need_of_growth.result ≡ private_need (key_of c.args.p) c.args.n (store_in v.trail c.args.object).capacity =
    c.need_of_growth.ensures (key_of c.args.p) ∙ ap (λ (s : StoreWord). private_need (key_of c.args.p) c.args.n s.capacity) c.store-store.ensures.value in
    let test : IsTrue c.has_space.result ↔ HasSpace v (private_need (key_of c.args.p) c.args.n (store_in v.trail c.args.object).capacity) =
    subst (λ (x : Need). IsTrue c.has_space.result ↔ HasSpace v x) need (subst (λ (x : View). IsTrue c.has_space.result ↔ HasSpace x c.need_of_growth.result) read c.has_space.ensures) in
    (λ yes. test.0 c.if-not-has_space.false, λ space. refl)

pub returns-clause-details : goal.returns-clause-details
returns-clause-details g c =
    let read : c.store-store.new.self.view ≡ c.args.h.now.view = ap (λ (s : HeapState g.row.P.Denot). s.view) c.store-store.ensures.new in
    λ yes. subst (λ (x : View). DetailsAre (GrownGets true x.trail x.used c.args.map c.args.n c.args.p) x.trail c.grow_to_copy.new.h.view.trail) read c.grow_to_copy.ensures.details
