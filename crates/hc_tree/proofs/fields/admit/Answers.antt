use Rattle.std.proofs.Common.{◌≡◌, ◌<◌, ◌∙◌, ap, sym, subst}
use Rattle.std.specs.Prelude.{IsSomeAnd, IsTrue, Some}
use Rattle.hc_value.specs.Field.{in_place_of, join_of}
use Rattle.hc_heap.specs.Readings.{detail_in}
use Rattle.hc_heap.specs.States.{HeapState, View}
use Rattle.hc_fields.specs.Fields.{raised}
use Rattle.hc_tree.specs.Details.{joined_with}
use Rattle.hc_tree.proofs.Made.{field-used}
use Rattle.hc_tree.proofs.Joins.{place-of, raised-at, raised-tree}
use Rattle.hc_tree.proofs.fields.admit.Given.{Over}
use Rattle.hc_tree.proofs.fields.admit.Goals as goal

pub raise-requires-clause-handed : goal.raise-requires-clause-handed
raise-requires-clause-handed g c =
    let v = c.args.h.now.view in
    let read : c.field_at-field.new.h.view ≡ v = ap (λ (s : HeapState g.row.P.Denot). s.view) c.field_at-field.ensures.same in
    subst (λ (w : View). c.field_at-field.result < w.used.fields) (sym read) (field-used v c.field_at-field.result c.unused_says_nothing.ensures.law c.stands.ensures.heap c.field_at-field.ensures.made)

pub raise-requires-clause-place : goal.raise-requires-clause-place
raise-requires-clause-place g c =
    let v = c.args.h.now.view in
    let d = c.args.detail in
    let read : c.field_at-field.new.h.view ≡ v = ap (λ (s : HeapState g.row.P.Denot). s.view) c.field_at-field.ensures.same in
    subst (λ (w : View). IsSomeAnd (detail_in w.trail c.field_at-field.result) (λ e. IsTrue (in_place_of e.rep (join_of e.rep d.rep)))) (sym read)
    (place-of v.trail c.args.map c.args.k c.field_at-field.result d c.field_at-field.ensures.field c.requires.fits)

-- the view after the raise
view-is : (g : Over) (c : goal.After-raise g) → c.raise.new.h.view ≡ record c.args.h.now.view { trail = raised c.args.h.now.view.trail c.field_at-field.result c.args.detail }
view-is g c =
    let read : c.field_at-field.new.h.view ≡ c.args.h.now.view = ap (λ (s : HeapState g.row.P.Denot). s.view) c.field_at-field.ensures.same in
    c.raise.ensures.view ∙ ap (λ (w : View). record w { trail = raised w.trail c.field_at-field.result c.args.detail }) read

pub returns-clause-view : goal.returns-clause-view
returns-clause-view g c =
    let v = c.args.h.now.view in
    subst (λ o. IsSomeAnd o (λ f. c.raise.new.h.view ≡ record v { trail = raised v.trail f c.args.detail })) (sym c.field_at-field.ensures.field) (view-is g c)

pub returns-clause-joined : goal.returns-clause-joined
returns-clause-joined g c =
    let v = c.args.h.now.view in
    let d = c.args.detail in
    let read : c.field_at-field.new.h.view ≡ v = ap (λ (s : HeapState g.row.P.Denot). s.view) c.field_at-field.ensures.same in
    raised-at v.trail c.raise.new.h.view.trail c.field_at-field.result d c.args.map c.args.k (ap (λ (w : View). w.trail) (view-is g c)) c.field_at-field.ensures.field c.field_at-field.ensures.made
    (subst (λ (w : View). IsSomeAnd (detail_in w.trail c.field_at-field.result) (λ e. detail_in c.raise.new.h.view.trail c.field_at-field.result ≡ Some (joined_with (Some e) d))) read c.raise.ensures.joined)

pub returns-clause-tree : goal.returns-clause-tree
returns-clause-tree g c = raised-tree c.maps_are_kept.ensures.law c.args.h.now.view c.raise.new.h.view c.field_at-field.result c.args.detail c.stands.ensures.heap c.raise.ensures.heap (view-is g c) c.requires.tree
