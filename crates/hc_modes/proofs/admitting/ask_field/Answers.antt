use Rattle.std.proofs.Common.{rules, ◌≡◌, ◌∙◌, ℕ, Option, Some, ap, sym, subst}
use Rattle.std.specs.Prelude.{IsSomeAnd, IsTrue}
use Rattle.hc_value.specs.Field.{is_detail_within}
use Rattle.hc_value.specs.Prop.{kind_of}
use Rattle.hc_value.specs.declared.field.Detail.{Detail}
use Rattle.hc_heap.specs.Readings.{detail_in}
use Rattle.hc_heap.specs.States.{HeapState, View}
use Rattle.hc_heap.specs.Writes.{Trail}
use Rattle.hc_descs.specs.Entries.{field_at}
use Rattle.hc_fields.specs.Fields.{raised}
use Rattle.hc_slots.specs.Meaning.{IsConstnessFor, held_in, slot_word}
use Rattle.hc_modes.specs.Admitting.{held_detail}
use Rattle.hc_modes.proofs.Asked.{raised-none}
use Rattle.hc_modes.proofs.admitting.ask_field.Goals as goal
use Rattle.std.proofs.Common.{refl}
use Rattle.hc_value.specs.Field.{in_place_of, join_of}
use Rattle.hc_value.specs.declared.field.Rep.{Rep}
use Rattle.hc_heap.specs.Readings.{map_in}
use Rattle.hc_tree.specs.Details.{detail_at, detail_of, joined_with, joins_in_place}
use Rattle.hc_modes.specs.Admitting.{HasRep, held_rep}
use Rattle.hc_modes.proofs.Admitted.{raised-same}
use Rattle.hc_modes.proofs.Fitting.{has-rep, may-hold, rep-asked}

pub returns-then-eq-clause-asked : goal.returns-then-eq-clause-asked
returns-then-eq-clause-asked g c =
    let v = c.args.h.now.view in
    let m = c.map_of-map.result in
    let f = c.field_at-field.result in
    let e = c.unwrap-was.result in
    let k = c.constness_for-constness.result in
    let d = c.detail_for_held-detail.result in
    let first : c.map_of-map.new.h.view ≡ v = ap (λ (s : HeapState g.row.P.Denot). s.view) c.map_of-map.ensures.new in
    let second : c.field_at-field.new.h.view ≡ v = ap (λ (s : HeapState g.row.P.Denot). s.view) c.field_at-field.ensures.same ∙ first in
    let third : c.detail.new.self.view ≡ v = ap (λ (s : HeapState g.row.P.Denot). s.view) c.detail.ensures.new ∙ second in
    let fourth : c.constness_for-constness.new.h.view ≡ v = ap (λ (s : HeapState g.row.P.Denot). s.view) c.constness_for-constness.ensures.new ∙ third in
    let fifth : c.detail_for_held-detail.new.h.view ≡ v = ap (λ (s : HeapState g.row.P.Denot). s.view) c.detail_for_held-detail.ensures.same ∙ fourth in
    let field : field_at v.trail m c.args.i ≡ Some f = subst (λ (x : View). field_at x.trail m c.args.i ≡ Some f) first c.field_at-field.ensures.field in
    let was : detail_in v.trail f ≡ Some e = ap (λ (x : View). detail_in x.trail f) (sym second) ∙ (sym c.detail.ensures.value ∙ c.unwrap-was.ensures) in
    let right : IsConstnessFor e.constness (held_in (kind_of c.args.held) e.rep (slot_word v.trail c.args.object c.args.i)) c.args.held k =
    subst (λ (x : View). IsConstnessFor e.constness (held_in (kind_of c.args.held) e.rep (slot_word x.trail c.args.object c.args.i)) c.args.held k) third c.constness_for-constness.ensures.constness in
    let asks : d ≡ held_detail v.trail c.args.held k = c.detail_for_held-detail.ensures.detail ∙ ap (λ (x : View). held_detail x.trail c.args.held k) fourth in
    let same : c.join-joined.result ≡ e = search rules in
    let within : IsTrue (is_detail_within d e) = c.join-joined.ensures.order.1 same in
    let still : v ≡ record v { trail = raised v.trail f d } = ap (λ (t : Trail). record v { trail = t }) (sym (raised-none v.trail f d e was within)) in
    record {
      constness = k;
      detail = e;
      admitted = record {
        map = m;
        field = f;
        has = c.map_of-map.ensures.map;
        is_field = field;
        view = fifth ∙ (still ∙ ap (λ (x : Detail). record v { trail = raised v.trail f x }) asks);
      };
      was = was;
      right = right;
    }

pub returns-clause-asked : goal.returns-clause-asked
returns-clause-asked g c =
    let v = c.args.h.now.view in
    let m = c.map_of-map.result in
    let f = c.field_at-field.result in
    let e = c.unwrap-was.result in
    let k = c.constness_for-constness.result in
    let d = c.detail_for_held-detail.result in
    let first : c.map_of-map.new.h.view ≡ v = ap (λ (s : HeapState g.row.P.Denot). s.view) c.map_of-map.ensures.new in
    let second : c.field_at-field.new.h.view ≡ v = ap (λ (s : HeapState g.row.P.Denot). s.view) c.field_at-field.ensures.same ∙ first in
    let third : c.detail.new.self.view ≡ v = ap (λ (s : HeapState g.row.P.Denot). s.view) c.detail.ensures.new ∙ second in
    let fourth : c.constness_for-constness.new.h.view ≡ v = ap (λ (s : HeapState g.row.P.Denot). s.view) c.constness_for-constness.ensures.new ∙ third in
    let fifth : c.detail_for_held-detail.new.h.view ≡ v = ap (λ (s : HeapState g.row.P.Denot). s.view) c.detail_for_held-detail.ensures.same ∙ fourth in
    let field : field_at v.trail m c.args.i ≡ Some f = subst (λ (x : View). field_at x.trail m c.args.i ≡ Some f) first c.field_at-field.ensures.field in
    let was : detail_in v.trail f ≡ Some e = ap (λ (x : View). detail_in x.trail f) (sym second) ∙ (sym c.detail.ensures.value ∙ c.unwrap-was.ensures) in
    let right : IsConstnessFor e.constness (held_in (kind_of c.args.held) e.rep (slot_word v.trail c.args.object c.args.i)) c.args.held k =
    subst (λ (x : View). IsConstnessFor e.constness (held_in (kind_of c.args.held) e.rep (slot_word x.trail c.args.object c.args.i)) c.args.held k) third c.constness_for-constness.ensures.constness in
    let asks : d ≡ held_detail v.trail c.args.held k = c.detail_for_held-detail.ensures.detail ∙ ap (λ (x : View). held_detail x.trail c.args.held k) fourth in
    let view : c.admit.new.h.view ≡ record v { trail = raised v.trail f d } = subst (λ (o : Option ℕ). IsSomeAnd o (λ y. c.admit.new.h.view ≡ record v { trail = raised v.trail y d })) field
    (subst (λ (x : View). IsSomeAnd (field_at x.trail m c.args.i) (λ y. c.admit.new.h.view ≡ record x { trail = raised x.trail y d })) fifth c.admit.ensures.view) in
    record {
      constness = k;
      detail = e;
      admitted = record {
        map = m;
        field = f;
        has = c.map_of-map.ensures.map;
        is_field = field;
        view = view ∙ ap (λ (x : Detail). record v { trail = raised v.trail f x }) asks;
      };
      was = was;
      right = right;
    }

pub returns-then-eq-clause-rep : goal.returns-then-eq-clause-rep
returns-then-eq-clause-rep g c =
    let v = c.args.h.now.view in
    let m = c.map_of-map.result in
    let f = c.field_at-field.result in
    let e = c.unwrap-was.result in
    let k = c.constness_for-constness.result in
    let d = c.detail_for_held-detail.result in
    let first : c.map_of-map.new.h.view ≡ v = ap (λ (s : HeapState g.row.P.Denot). s.view) c.map_of-map.ensures.new in
    let second : c.field_at-field.new.h.view ≡ v = ap (λ (s : HeapState g.row.P.Denot). s.view) c.field_at-field.ensures.same ∙ first in
    let third : c.detail.new.self.view ≡ v = ap (λ (s : HeapState g.row.P.Denot). s.view) c.detail.ensures.new ∙ second in
    let fourth : c.constness_for-constness.new.h.view ≡ v = ap (λ (s : HeapState g.row.P.Denot). s.view) c.constness_for-constness.ensures.new ∙ third in
    let fifth : c.detail_for_held-detail.new.h.view ≡ v = ap (λ (s : HeapState g.row.P.Denot). s.view) c.detail_for_held-detail.ensures.same ∙ fourth in
    let field : field_at v.trail m c.args.i ≡ Some f = subst (λ (x : View). field_at x.trail m c.args.i ≡ Some f) first c.field_at-field.ensures.field in
    let was : detail_in v.trail f ≡ Some e = ap (λ (x : View). detail_in x.trail f) (sym second) ∙ (sym c.detail.ensures.value ∙ c.unwrap-was.ensures) in
    let asks : d ≡ held_detail v.trail c.args.held k = c.detail_for_held-detail.ensures.detail ∙ ap (λ (x : View). held_detail x.trail c.args.held k) fourth in
    subst (λ (x : View). HasRep x.trail c.args.object c.args.i e.rep) (sym fifth)
    (has-rep v.trail c.args.object m c.args.i e c.map_of-map.ensures.map (ap (detail_of v.trail) field ∙ was))

pub returns-then-eq-clause-fits : goal.returns-then-eq-clause-fits
returns-then-eq-clause-fits g c =
    let v = c.args.h.now.view in
    let m = c.map_of-map.result in
    let f = c.field_at-field.result in
    let e = c.unwrap-was.result in
    let k = c.constness_for-constness.result in
    let d = c.detail_for_held-detail.result in
    let first : c.map_of-map.new.h.view ≡ v = ap (λ (s : HeapState g.row.P.Denot). s.view) c.map_of-map.ensures.new in
    let second : c.field_at-field.new.h.view ≡ v = ap (λ (s : HeapState g.row.P.Denot). s.view) c.field_at-field.ensures.same ∙ first in
    let third : c.detail.new.self.view ≡ v = ap (λ (s : HeapState g.row.P.Denot). s.view) c.detail.ensures.new ∙ second in
    let fourth : c.constness_for-constness.new.h.view ≡ v = ap (λ (s : HeapState g.row.P.Denot). s.view) c.constness_for-constness.ensures.new ∙ third in
    let fifth : c.detail_for_held-detail.new.h.view ≡ v = ap (λ (s : HeapState g.row.P.Denot). s.view) c.detail_for_held-detail.ensures.same ∙ fourth in
    let field : field_at v.trail m c.args.i ≡ Some f = subst (λ (x : View). field_at x.trail m c.args.i ≡ Some f) first c.field_at-field.ensures.field in
    let was : detail_in v.trail f ≡ Some e = ap (λ (x : View). detail_in x.trail f) (sym second) ∙ (sym c.detail.ensures.value ∙ c.unwrap-was.ensures) in
    let asks : d ≡ held_detail v.trail c.args.held k = c.detail_for_held-detail.ensures.detail ∙ ap (λ (x : View). held_detail x.trail c.args.held k) fourth in
    let same : c.join-joined.result ≡ e = search rules in
    let within : IsTrue (is_detail_within d e) = c.join-joined.ensures.order.1 same in
    may-hold v.trail c.args.held k e (subst (λ (x : Detail). IsTrue (is_detail_within x e)) asks within)

pub admit-requires-clause-fits : goal.admit-requires-clause-fits
admit-requires-clause-fits g c =
    let v = c.args.h.now.view in
    let m = c.map_of-map.result in
    let f = c.field_at-field.result in
    let e = c.unwrap-was.result in
    let k = c.constness_for-constness.result in
    let d = c.detail_for_held-detail.result in
    let first : c.map_of-map.new.h.view ≡ v = ap (λ (s : HeapState g.row.P.Denot). s.view) c.map_of-map.ensures.new in
    let second : c.field_at-field.new.h.view ≡ v = ap (λ (s : HeapState g.row.P.Denot). s.view) c.field_at-field.ensures.same ∙ first in
    let third : c.detail.new.self.view ≡ v = ap (λ (s : HeapState g.row.P.Denot). s.view) c.detail.ensures.new ∙ second in
    let fourth : c.constness_for-constness.new.h.view ≡ v = ap (λ (s : HeapState g.row.P.Denot). s.view) c.constness_for-constness.ensures.new ∙ third in
    let fifth : c.detail_for_held-detail.new.h.view ≡ v = ap (λ (s : HeapState g.row.P.Denot). s.view) c.detail_for_held-detail.ensures.same ∙ fourth in
    let field : field_at v.trail m c.args.i ≡ Some f = subst (λ (x : View). field_at x.trail m c.args.i ≡ Some f) first c.field_at-field.ensures.field in
    let was : detail_in v.trail f ≡ Some e = ap (λ (x : View). detail_in x.trail f) (sym second) ∙ (sym c.detail.ensures.value ∙ c.unwrap-was.ensures) in
    let asks : d ≡ held_detail v.trail c.args.held k = c.detail_for_held-detail.ensures.detail ∙ ap (λ (x : View). held_detail x.trail c.args.held k) fourth in
    let here : detail_at v.trail m c.args.i ≡ Some e = ap (detail_of v.trail) field ∙ was in
    let rep : d.rep ≡ held_rep c.args.held = ap (λ (x : Detail). x.rep) asks ∙ rep-asked v.trail c.args.held k in
    subst (λ (x : View). IsTrue (joins_in_place (detail_at x.trail m c.args.i) (Some d))) (sym fifth)
    (subst (λ (x : Option Detail). IsTrue (joins_in_place x (Some d))) (sym here)
    (subst (λ (r : Rep). IsTrue (in_place_of e.rep (join_of e.rep r))) (sym rep) (c.requires.place m e c.map_of-map.ensures.map here)))

pub returns-clause-rep : goal.returns-clause-rep
returns-clause-rep g c =
    let v = c.args.h.now.view in
    let m = c.map_of-map.result in
    let f = c.field_at-field.result in
    let e = c.unwrap-was.result in
    let k = c.constness_for-constness.result in
    let d = c.detail_for_held-detail.result in
    let first : c.map_of-map.new.h.view ≡ v = ap (λ (s : HeapState g.row.P.Denot). s.view) c.map_of-map.ensures.new in
    let second : c.field_at-field.new.h.view ≡ v = ap (λ (s : HeapState g.row.P.Denot). s.view) c.field_at-field.ensures.same ∙ first in
    let third : c.detail.new.self.view ≡ v = ap (λ (s : HeapState g.row.P.Denot). s.view) c.detail.ensures.new ∙ second in
    let fourth : c.constness_for-constness.new.h.view ≡ v = ap (λ (s : HeapState g.row.P.Denot). s.view) c.constness_for-constness.ensures.new ∙ third in
    let fifth : c.detail_for_held-detail.new.h.view ≡ v = ap (λ (s : HeapState g.row.P.Denot). s.view) c.detail_for_held-detail.ensures.same ∙ fourth in
    let field : field_at v.trail m c.args.i ≡ Some f = subst (λ (x : View). field_at x.trail m c.args.i ≡ Some f) first c.field_at-field.ensures.field in
    let was : detail_in v.trail f ≡ Some e = ap (λ (x : View). detail_in x.trail f) (sym second) ∙ (sym c.detail.ensures.value ∙ c.unwrap-was.ensures) in
    let asks : d ≡ held_detail v.trail c.args.held k = c.detail_for_held-detail.ensures.detail ∙ ap (λ (x : View). held_detail x.trail c.args.held k) fourth in
    let here : detail_at v.trail m c.args.i ≡ Some e = ap (detail_of v.trail) field ∙ was in
    let view : c.admit.new.h.view ≡ record v { trail = raised v.trail f d } = subst (λ (o : Option ℕ). IsSomeAnd o (λ y. c.admit.new.h.view ≡ record v { trail = raised v.trail y d })) field
    (subst (λ (x : View). IsSomeAnd (field_at x.trail m c.args.i) (λ y. c.admit.new.h.view ≡ record x { trail = raised x.trail y d })) fifth c.admit.ensures.view) in
    let has : map_in c.admit.new.h.view.trail c.args.object ≡ Some m = ap (λ (x : View). map_in x.trail c.args.object) view ∙ (raised-same (λ (t : Trail). map_in t c.args.object) v.trail f d (λ x. refl) ∙ c.map_of-map.ensures.map) in
    let joined : joined_with (detail_at c.detail_for_held-detail.new.h.view.trail m c.args.i) d ≡ c.join-joined.result =
    ap (λ (x : View). joined_with (detail_at x.trail m c.args.i) d) fifth ∙ (ap (λ (x : Option Detail). joined_with x d) here ∙ c.join-joined.ensures.commutes) in
    has-rep c.admit.new.h.view.trail c.args.object m c.args.i c.join-joined.result has (c.admit.ensures.joined ∙ ap (λ (x : Detail). Some x) joined)

pub returns-clause-fits : goal.returns-clause-fits
returns-clause-fits g c =
    let v = c.args.h.now.view in
    let m = c.map_of-map.result in
    let f = c.field_at-field.result in
    let e = c.unwrap-was.result in
    let k = c.constness_for-constness.result in
    let d = c.detail_for_held-detail.result in
    let first : c.map_of-map.new.h.view ≡ v = ap (λ (s : HeapState g.row.P.Denot). s.view) c.map_of-map.ensures.new in
    let second : c.field_at-field.new.h.view ≡ v = ap (λ (s : HeapState g.row.P.Denot). s.view) c.field_at-field.ensures.same ∙ first in
    let third : c.detail.new.self.view ≡ v = ap (λ (s : HeapState g.row.P.Denot). s.view) c.detail.ensures.new ∙ second in
    let fourth : c.constness_for-constness.new.h.view ≡ v = ap (λ (s : HeapState g.row.P.Denot). s.view) c.constness_for-constness.ensures.new ∙ third in
    let fifth : c.detail_for_held-detail.new.h.view ≡ v = ap (λ (s : HeapState g.row.P.Denot). s.view) c.detail_for_held-detail.ensures.same ∙ fourth in
    let field : field_at v.trail m c.args.i ≡ Some f = subst (λ (x : View). field_at x.trail m c.args.i ≡ Some f) first c.field_at-field.ensures.field in
    let was : detail_in v.trail f ≡ Some e = ap (λ (x : View). detail_in x.trail f) (sym second) ∙ (sym c.detail.ensures.value ∙ c.unwrap-was.ensures) in
    let asks : d ≡ held_detail v.trail c.args.held k = c.detail_for_held-detail.ensures.detail ∙ ap (λ (x : View). held_detail x.trail c.args.held k) fourth in
    let within : IsTrue (is_detail_within d c.join-joined.result) = c.join-joined.ensures.least.left in
    may-hold v.trail c.args.held k c.join-joined.result (subst (λ (x : Detail). IsTrue (is_detail_within x c.join-joined.result)) asks within)
