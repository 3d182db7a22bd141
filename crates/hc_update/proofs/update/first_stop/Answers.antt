use Rattle.std.proofs.Common.{◌≡◌, ◌∙◌, ℕ, ap, sym, subst, rules, true, Some}
use borrow.Author.Count.{below_more}
use Rattle.hc_heap.specs.States.{HeapState, View}
use Rattle.hc_value.specs.Field.{in_place_of}
use Rattle.hc_value.specs.declared.field.Rep.{Rep}
use Rattle.hc_tree.specs.Details.{detail_at, fits_at}
use Rattle.hc_update.proofs.Raised.{fits-is}
use Rattle.hc_update.proofs.update.first_stop.Goals as goal

pub loop-k-preserved : goal.loop-k-preserved
loop-k-preserved g c =
    let v = c.args.h.now.view in
    let end = c.args.end in
    let m = c.args.map in
    let k = c.loop-k.k in
    let e = c.detail_at-live.result in
    let d = c.detail_at-own.result in
    let first : c.loop-k.h.view ≡ v = ap (λ (s : HeapState g.row.P.Denot). s.view) c.loop-k.invariant.same in
    let second : c.detail_at-live.new.h.view ≡ v = ap (λ (s : HeapState g.row.P.Denot). s.view) c.detail_at-live.ensures.same ∙ first in
    let live : detail_at v.trail end k ≡ Some e = subst (λ (x : View). detail_at x.trail end k ≡ Some e) first c.detail_at-live.ensures.value in
    let own : detail_at v.trail m k ≡ Some d = subst (λ (x : View). detail_at x.trail m k ≡ Some d) second c.detail_at-own.ensures.value in
    let here : fits_at v.trail end m k ≡ true = fits-is v.trail end m k e d live own ∙ ap (λ (r : Rep). in_place_of e.rep r) (sym c.join.ensures.value) ∙ sym c.in_place.ensures.value ∙ c.if-not-in_place.false in
    record {
      same = search rules;
      before = below_more (λ (j : ℕ). fits_at v.trail end m j ≡ true) k c.loop-k.invariant.before here;
      goes = search rules;
      went = search rules;
    }
