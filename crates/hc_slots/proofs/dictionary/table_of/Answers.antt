use Rattle.std.proofs.Common.{◌≡◌, ◌∙◌, ◌<◌, None, List, [], ◌∷◌, ◌++◌, refl, ap, sym, subst, arith}
use Rattle.hc_value.specs.declared.prop.Prop.{Prop}
use Rattle.hc_heap.specs.States.{View, HeapState}
use Rattle.hc_descs.specs.Entries.{count_of}
use Rattle.hc_table.specs.Numbers.{IsNameNumber}
use Rattle.hc_table.specs.World.{place_of}
use Rattle.hc_slots.specs.Listed.{listed, listed-more}
use Rattle.hc_slots.specs.Meaning.{prop_in}
use Rattle.hc_slots.proofs.Named.{name-new, proper-at}
use Rattle.hc_slots.proofs.Unmoved.{unmoved-of, unmoved-on}
use Rattle.hc_slots.proofs.dictionary.table_of.Goals as goal

pub insert-requires-clause-absent : goal.insert-requires-clause-absent
insert-requires-clause-absent g c =
    let t = c.args.h.now.view.trail in
    let o = c.args.object in
    let m = c.args.map in
    let f = prop_in t o m in
    let n = count_of t m in
    let k = c.loop-k.k in
    let lt : k < n = omega (arith, c.loop-k-test.true, c.requires.count) in
    let still : c.loop-k.h.view ≡ c.args.h.now.view = ap (λ (s : HeapState g.row.P.Denot). s.view) c.loop-k.invariant.still in
    let is : c.prop_of_entry-prop.result ≡ f k = c.prop_of_entry-prop.ensures.value ∙ ap (λ (w : View). prop_in w.trail o m k) still in
    subst (λ (ps : List Prop). place_of ps c.prop_of_entry-prop.result.name ≡ None) (sym c.loop-k.invariant.props)
    (subst (λ (p : Prop). place_of (listed f k) p.name ≡ None) (sym is) (name-new f n k c.requires.distinct lt))

pub insert-requires-clause-number : goal.insert-requires-clause-number
insert-requires-clause-number g c =
    let t = c.args.h.now.view.trail in
    let o = c.args.object in
    let m = c.args.map in
    let f = prop_in t o m in
    let n = count_of t m in
    let k = c.loop-k.k in
    let lt : k < n = omega (arith, c.loop-k-test.true, c.requires.count) in
    let still : c.loop-k.h.view ≡ c.args.h.now.view = ap (λ (s : HeapState g.row.P.Denot). s.view) c.loop-k.invariant.still in
    let is : c.prop_of_entry-prop.result ≡ f k = c.prop_of_entry-prop.ensures.value ∙ ap (λ (w : View). prop_in w.trail o m k) still in
    subst (λ (p : Prop). IsNameNumber p.name) (sym is) (proper-at f n k c.requires.proper lt).name

pub loop-k-preserved : goal.loop-k-preserved
loop-k-preserved g c =
    let t = c.args.h.now.view.trail in
    let o = c.args.object in
    let m = c.args.map in
    let f = prop_in t o m in
    let n = count_of t m in
    let k = c.loop-k.k in
    let lt : k < n = omega (arith, c.loop-k-test.true, c.requires.count) in
    let still : c.loop-k.h.view ≡ c.args.h.now.view = ap (λ (s : HeapState g.row.P.Denot). s.view) c.loop-k.invariant.still in
    let is : c.prop_of_entry-prop.result ≡ f k = c.prop_of_entry-prop.ensures.value ∙ ap (λ (w : View). prop_in w.trail o m k) still in
    let before = c.loop-k.invariant.loads in
    let more = c.prop_of_entry-prop.ensures.loads.least in
    record {
      props =
          c.in-Ok.ensures.added
          ∙ ap (λ (ps : List Prop). ps ++ c.prop_of_entry-prop.result ∷ []) c.loop-k.invariant.props
          ∙ ap (λ (p : Prop). listed f k ++ p ∷ []) is
          ∙ sym (listed-more f f k (f k) (λ j lt. refl) refl);
      still = unmoved-on c.args.h.now c.loop-k.h c.prop_of_entry-prop.new.h c.loop-k.invariant.still (unmoved-of c.loop-k.h c.prop_of_entry-prop.new.h c.prop_of_entry-prop.ensures.new c.prop_of_entry-prop.ensures.loads.is);
      loads = omega (arith, before, more);
    }
