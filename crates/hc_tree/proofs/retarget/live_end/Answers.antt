use Rattle.std.proofs.Common.{◌≡◌, ◌∙◌, ap, sym, subst, refl, rules, Some}
use Rattle.hc_heap.specs.Frames.{goes-none}
use Rattle.hc_heap.specs.States.{HeapState, View}
use Rattle.hc_descs.specs.Entries.{key_at}
use Rattle.hc_tree.specs.Growth.{live_child}
use Rattle.hc_tree.proofs.Ended.{path-none, path-more}
use Rattle.hc_tree.proofs.retarget.live_end.Goals as goal

pub loop-k-init : goal.loop-k-init
loop-k-init g c = record {
  same = refl;
  path = path-none c.args.h.now.view.trail c.args.root c.args.map c.requires.root c.requires.live;
  goes = goes-none c.args.h.now.desk;
  went = g.met.P.Pace.stays c.args.h.now.pace c.args.h.now.desk.trail;
}

pub loop-k-preserved : goal.loop-k-preserved
loop-k-preserved g c =
    let v = c.args.h.now.view in
    let key = c.key_at-key.result in
    let first : c.loop-k.h.view ≡ v = ap (λ (s : HeapState g.row.P.Denot). s.view) c.loop-k.invariant.same in
    let read : c.key_at-key.new.h.view ≡ v = ap (λ (s : HeapState g.row.P.Denot). s.view) c.key_at-key.ensures.same ∙ first in
    let is = subst (λ (w : View). key_at w.trail c.args.map c.loop-k.k ≡ Some key) first c.key_at-key.ensures.key in
    let found = ap (λ (w : View). live_child w.trail c.loop-k.at key) (sym read) ∙ (sym c.live.ensures.live ∙ c.in-Some.is) in
    record {
      same = search rules;
      path = path-more c.same_keys_are_equal.ensures.law v.trail c.args.root c.args.map c.loop-k.at c.loop-k.k c.in-Some.child key c.requires.tree c.loop-k.invariant.path found is;
      goes = search rules;
      went = search rules;
    }
