use Rattle.std.proofs.Common.{◌≡◌, ℕ, ◌+◌, ◌<◌, Some, ap, sym, ◌∙◌, subst, rules, arith}
use Rattle.hc_layout.specs.declared.words.GateWord.{GateWord}
use Rattle.hc_heap.specs.Writes.{Trail}
use Rattle.hc_heap.specs.Readings.{gate_in}
use Rattle.hc_heap.specs.Frames.{goes-none, goes-on}
use Rattle.hc_heap.specs.States.{View, HeapState}
use Rattle.hc_tree.specs.Copying.{with_field, detail_at, IsLikeField}
use Rattle.hc_tree.proofs.Made.{and-then, entry-before, detail-same, still-has, AreMade, made-none, made-more, made-like, fields-zero, fields-more}
use Rattle.hc_tree.proofs.fields.new_fields.Goals as goal

pub loop-k-init : goal.loop-k-init
loop-k-init g c =
    let v = c.args.h.now.view in
    record {
      view = fields-zero v;
      made = made-none v.trail c.args.owner c.args.map v.used.fields;
      heap = c.stands.ensures.heap;
      goes = goes-none c.args.h.now.desk;
      went = search rules;
    }

pub detail_at-detail-requires : goal.detail_at-detail-requires
detail_at-detail-requires g c =
    let v = c.args.h.now.view in
    record { entry = still-has v.used.fields c.args.map c.loop-k.k c.args.n v.trail c.loop-k.h.view.trail c.loop-k.invariant.made.writes c.requires.entries c.loop-k-test.true }

pub loop-k-preserved : goal.loop-k-preserved
loop-k-preserved g c =
    let v = c.args.h.now.view in
    let m = c.args.map in
    let k = c.loop-k.k in
    let first = v.used.fields in
    let now = c.loop-k.h.view in
    let d = c.detail_at-detail.result in
    let f = c.new_field.result in
    let made = c.loop-k.invariant.made in
    let still : c.detail_at-detail.new.h.view ≡ now = ap (λ (s : HeapState g.row.P.Denot). s.view) c.detail_at-detail.ensures.same in
    let last = c.new_field.ensures.view ∙ ap (λ (w : View). record w { trail = with_field w.trail f c.args.owner d; used = record w.used { fields = w.used.fields + 1 } }) still in
    let fresh : f ≡ first + k = c.new_field.ensures.fresh ∙ (ap (λ (w : View). w.used.fields) still ∙ ap (λ (w : View). w.used.fields) c.loop-k.invariant.view) in
    let is : c.new_field.new.h.view.trail ≡ with_field now.trail (first + k) c.args.owner d = ap (λ (w : View). w.trail) last ∙ ap (λ (x : ℕ). with_field now.trail x c.args.owner d) fresh in
    let has = and-then (λ (x : GateWord). x.entries ≡ c.args.n) (λ (x : GateWord). k < x.entries) (gate_in v.trail m) c.requires.entries (λ x same. let below : k < c.args.n = c.loop-k-test.true in omega (arith, same, below)) in
    let detail : detail_at v.trail m k ≡ Some d =
    sym (detail-same first m k v.trail now.trail made.writes (entry-before v m k c.gates_are_open.ensures.law c.unused_says_nothing.ensures.law c.stands.ensures.heap has)) ∙ c.detail_at-detail.ensures.value in
    let on = g.met.P.Pace.goes_on in
    record {
      view = fields-more v now c.new_field.new.h.view (with_field now.trail f c.args.owner d) k c.loop-k.invariant.view last;
      made = subst (λ (t : Trail). AreMade v.trail t c.args.owner m first (k + 1)) (sym is) (made-more v.trail now.trail c.args.owner m first k d made detail);
      heap = c.new_field.ensures.heap;
      goes = goes-on c.args.h.now.desk c.loop-k.h.desk c.new_field.new.h.desk c.loop-k.invariant.goes
          (goes-on c.loop-k.h.desk c.detail_at-detail.new.h.desk c.new_field.new.h.desk c.detail_at-detail.ensures.goes c.new_field.ensures.goes);
      went = on c.args.h.now.pace c.loop-k.h.pace c.new_field.new.h.pace c.args.h.now.desk.trail c.loop-k.h.desk.trail c.new_field.new.h.desk.trail c.loop-k.invariant.went
          (on c.loop-k.h.pace c.detail_at-detail.new.h.pace c.new_field.new.h.pace c.loop-k.h.desk.trail c.detail_at-detail.new.h.desk.trail c.new_field.new.h.desk.trail c.detail_at-detail.ensures.went c.new_field.ensures.went);
    }

pub returns-clause-made : goal.returns-clause-made
returns-clause-made g c =
    let v = c.args.h.now.view in
    let end : c.loop-k.k ≡ c.args.n = omega arith in
    let made = subst (λ (n : ℕ). AreMade v.trail c.loop-k.h.view.trail c.args.owner c.args.map v.used.fields n) end c.loop-k.invariant.made in
    λ k lt. subst (λ (f : ℕ). IsLikeField c.loop-k.h.view.trail c.args.owner c.args.map k (f + k)) (sym c.used-first.ensures)
    (made-like v c.loop-k.h.view.trail c.args.owner c.args.map c.args.n c.gates_are_open.ensures.law c.unused_says_nothing.ensures.law c.stands.ensures.heap c.requires.entries made k lt)
