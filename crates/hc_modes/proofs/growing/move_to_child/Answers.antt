use Rattle.std.proofs.Common.{◌≡◌, ◌<◌, ℕ, Bool, cond, eq-eqb, refl, Option, Some, ap, ◌∙◌, sym, subst, IfSome, arith}
use Rattle.std.specs.Prelude.{IsTrue, IsSomeAnd}
use Rattle.hc_layout.specs.declared.shape.Shape.{Shape}
use Rattle.hc_layout.specs.declared.words.GateWord.{GateWord}
use Rattle.hc_value.specs.Prop.{kind_of}
use Rattle.hc_value.specs.declared.field.Detail.{Detail}
use Rattle.hc_heap.specs.Lawful.{IsFormOf}
use Rattle.hc_heap.specs.Readings.{bits_in, detail_in, map_in}
use Rattle.hc_heap.specs.States.{HeapState, View, IsHeap}
use Rattle.hc_slots.specs.Cases.{some-is}
use Rattle.hc_slots.specs.Meaning.{MayHold, held_in}
use Rattle.hc_slots.specs.Slots.{IsFitted}
use Rattle.hc_tree.specs.Details.{NoMap}
use Rattle.hc_modes.specs.Filling.{IsMovedBut}
use Rattle.hc_modes.proofs.Gets.{fitted-detail}
use Rattle.hc_modes.proofs.Joining.{move-lawful, move-made}
use Rattle.hc_modes.proofs.growing.move_to_child.Goals as goal

pub detail_at-detail-requires : goal.detail_at-detail-requires
detail_at-detail-requires g c = record { entry = subst (λ (x : Option GateWord). IsSomeAnd x (λ y. c.args.n < y.entries)) (sym c.requires.child) (omega arith) }

pub held_word-requires-clause-fits : goal.held_word-requires-clause-fits
held_word-requires-clause-fits g c =
    let same : c.detail_at-detail.result ≡ c.requires.grown.detail = some-is c.detail_at-detail.result c.requires.grown.detail (sym c.detail_at-detail.ensures.value ∙ c.requires.grown.grown.admits) in
    subst (λ (d : Detail). MayHold d.rep c.args.p.held) (sym same) c.requires.grown.fits

pub fill_next-requires-clause-unstable : goal.fill_next-requires-clause-unstable
fill_next-requires-clause-unstable g c =
    let read : c.detail_at-detail.new.h.view ≡ c.args.h.now.view = ap (λ (s : HeapState g.row.P.Denot). s.view) c.detail_at-detail.ensures.same in
    subst (λ (v : View). IfSome (map_in v.trail c.args.object) (λ x. IsTrue (bits_in v.trail x).unstable)) (sym read)
    (subst (λ (m : Option ℕ). IfSome m (λ x. IsTrue (bits_in c.args.h.now.view.trail x).unstable)) (sym c.requires.has) c.requires.unstable)

pub set_object_map-requires-clause-handed : goal.set_object_map-requires-clause-handed
set_object_map-requires-clause-handed g c =
    let read : c.detail_at-detail.new.h.view ≡ c.args.h.now.view = ap (λ (s : HeapState g.row.P.Denot). s.view) c.detail_at-detail.ensures.same in
    subst (λ (s : Shape). c.args.object < s.objects) (sym c.fill_next.ensures.fitted.used) (subst (λ (v : View). c.args.object < v.used.objects) (sym read) c.requires.handed)

pub set_object_map-requires-clause-lawful : goal.set_object_map-requires-clause-lawful
set_object_map-requires-clause-lawful g c =
    let v = c.args.h.now.view in
    let w = c.fill_next.new.h.view in
    let read : c.detail_at-detail.new.h.view ≡ v = ap (λ (s : HeapState g.row.P.Denot). s.view) c.detail_at-detail.ensures.same in
    let same : c.detail_at-detail.result ≡ c.requires.grown.detail = some-is c.detail_at-detail.result c.requires.grown.detail (sym c.detail_at-detail.ensures.value ∙ c.requires.grown.grown.admits) in
    let fitted : IsFitted v w c.args.object c.args.n = subst (λ (x : View). IsFitted x w c.args.object c.args.n) read c.fill_next.ensures.fitted in
    let form : IsFormOf (kind_of c.args.p.held) c.requires.grown.detail.rep c.held_word.result = subst (λ (d : Detail). IsFormOf (kind_of c.args.p.held) d.rep c.held_word.result) same c.held_word.ensures.form in
    let holds : held_in (kind_of c.args.p.held) c.requires.grown.detail.rep c.held_word.result ≡ c.args.p.held = subst (λ (d : Detail). held_in (kind_of c.args.p.held) d.rep c.held_word.result ≡ c.args.p.held) same c.held_word.ensures.holds in
    move-lawful c.maps_are_kept.ensures.law c.details_rise.ensures.law c.trees_stay.ensures.law c.unused_says_nothing.ensures.law v w c.args.object c.args.map c.args.child c.args.n c.held_word.result c.args.p c.stands.ensures.heap c.fill_next.ensures.heap fitted c.requires.has c.requires.unstable c.requires.open c.requires.holds c.requires.shared c.requires.child c.requires.grown c.fill_next.ensures.last form holds

pub returns-clause-moved : goal.returns-clause-moved
returns-clause-moved g c =
    let v = c.args.h.now.view in
    let w = c.fill_next.new.h.view in
    let read : c.detail_at-detail.new.h.view ≡ v = ap (λ (s : HeapState g.row.P.Denot). s.view) c.detail_at-detail.ensures.same in
    let same : c.detail_at-detail.result ≡ c.requires.grown.detail = some-is c.detail_at-detail.result c.requires.grown.detail (sym c.detail_at-detail.ensures.value ∙ c.requires.grown.grown.admits) in
    let fitted : IsFitted v w c.args.object c.args.n = subst (λ (x : View). IsFitted x w c.args.object c.args.n) read c.fill_next.ensures.fitted in
    let form : IsFormOf (kind_of c.args.p.held) c.requires.grown.detail.rep c.held_word.result = subst (λ (d : Detail). IsFormOf (kind_of c.args.p.held) d.rep c.held_word.result) same c.held_word.ensures.form in
    let holds : held_in (kind_of c.args.p.held) c.requires.grown.detail.rep c.held_word.result ≡ c.args.p.held = subst (λ (d : Detail). held_in (kind_of c.args.p.held) d.rep c.held_word.result ≡ c.args.p.held) same c.held_word.ensures.holds in
    let is = c.set_object_map.ensures.view in
    subst (λ (x : View). IsMovedBut NoMap v x c.args.object c.args.map c.args.n c.args.p) (sym is)
    (move-made c.maps_are_kept.ensures.law c.details_rise.ensures.law c.trees_stay.ensures.law c.unused_says_nothing.ensures.law v w c.args.object c.args.map c.args.child c.args.n c.held_word.result c.args.p c.stands.ensures.heap c.fill_next.ensures.heap fitted c.requires.has c.requires.unstable c.requires.open c.requires.holds c.requires.shared c.requires.child c.requires.grown c.fill_next.ensures.last form holds (subst IsHeap is c.set_object_map.ensures.heap) c.requires.tree)

pub returns-clause-used : goal.returns-clause-used
returns-clause-used g c =
    let v = c.args.h.now.view in
    let w = c.fill_next.new.h.view in
    let read : c.detail_at-detail.new.h.view ≡ v = ap (λ (s : HeapState g.row.P.Denot). s.view) c.detail_at-detail.ensures.same in
    let fitted : IsFitted v w c.args.object c.args.n = subst (λ (x : View). IsFitted x w c.args.object c.args.n) read c.fill_next.ensures.fitted in
    ap (λ (x : View). x.used) c.set_object_map.ensures.view ∙ fitted.used ∙ ap (λ (k : ℕ). let s : Shape = record v.used { slots = k } in s) fitted.more

pub returns-clause-comes : goal.returns-clause-comes
returns-clause-comes g c =
    let w = c.fill_next.new.h.view in
    subst (λ (y : View). map_in y.trail c.args.object ≡ Some c.args.child) (sym c.set_object_map.ensures.view)
    (ap (λ (b : Bool). cond b (Some c.args.child) (map_in w.trail c.args.object)) (eq-eqb c.args.object c.args.object refl))

pub returns-clause-details : goal.returns-clause-details
returns-clause-details g c f =
    let v = c.args.h.now.view in
    let w = c.fill_next.new.h.view in
    let read : c.detail_at-detail.new.h.view ≡ v = ap (λ (s : HeapState g.row.P.Denot). s.view) c.detail_at-detail.ensures.same in
    let fitted : IsFitted v w c.args.object c.args.n = subst (λ (x : View). IsFitted x w c.args.object c.args.n) read c.fill_next.ensures.fitted in
    ap (λ (y : View). detail_in y.trail f) c.set_object_map.ensures.view
    ∙ fitted-detail v w c.args.object c.args.n f fitted
